pub use Rattle.swreq_lemmas.specs as swreq_lemmas
pub mod Relations
pub mod Order
pub mod OrderLaws
pub mod Replacement
pub mod Overlap
pub mod Least
pub mod Interned
