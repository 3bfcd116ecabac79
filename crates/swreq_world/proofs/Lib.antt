pub use Rattle.swreq_param.proofs.swreq_lemmas as swreq_lemmas
pub use Rattle.swreq_resolve.proofs.swreq_decl as swreq_decl
pub use Rattle.swreq_resolve.proofs as swreq_resolve
pub use Rattle.swreq_param.proofs as swreq_param
pub use Rattle.swreq_lexicon.proofs.swreq_derive as swreq_derive
pub use Rattle.swreq_lexicon.proofs as swreq_lexicon
pub use Rattle.swreq_lowering.proofs as swreq_lowering
pub mod WrittenOrder
pub mod Noting
pub mod Filled
pub mod Within
pub mod Looking
pub mod OfSelf
pub mod Associated
pub mod Everywhere
pub mod Resolving
pub mod Constraints
pub mod InProtocols
pub mod GenericParams
pub mod InSignatures
pub mod Standing
pub mod Whole
pub mod Assembling
pub mod InQueries
pub mod Offsets
pub mod OnceDeclared
pub mod AsDeclared
pub mod Inheriting
pub mod KeptFronts
pub mod Conforming
pub mod Leading
pub mod EachOnce
pub mod Apart
pub mod Named
pub mod OneNamed
pub mod ParamsApart
pub mod ParamNames
pub mod Finding
pub mod Closing
pub mod Subjects
pub mod Unrefused
pub mod Saying
pub mod SayingQueries
pub mod Counting
pub mod Adding
pub mod TextStable
