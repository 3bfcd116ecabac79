pub use Rattle.swreq_derive.proofs as swreq_derive
pub use Rattle.swreq_word.proofs as swreq_word
pub mod Spelling
pub mod Chained
pub mod Context
pub mod Readings
pub mod Links
pub mod Correspondence
pub mod Shown
pub mod OneType
pub mod Orders
