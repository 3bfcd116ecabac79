pub use Rattle.swreq_lemmas.specs as swreq_lemmas
pub mod Terms
pub mod Order
pub mod Worked
pub mod Tables
pub mod Entries
pub mod Codes
pub mod Comparison
pub mod ComparisonLaws
pub mod Owned
pub mod OwnedLaws
