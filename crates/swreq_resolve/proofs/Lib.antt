pub use Rattle.swreq_closure.proofs as swreq_closure
pub use Rattle.swreq_decl.proofs as swreq_decl
pub use Rattle.swreq_names.proofs as swreq_names
pub mod Walks
pub mod Order
pub mod Answers
pub mod SameMembers
pub mod Gathered
pub mod Meaning
pub mod References
pub mod Duplicates
pub mod Refusing
pub mod Found
pub mod DeclaredOrder
pub mod TypeNames
