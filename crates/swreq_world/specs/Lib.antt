pub use Rattle.swreq_resolve.specs as swreq_resolve
pub use Rattle.swreq_param.specs as swreq_param
pub use Rattle.swreq_lexicon.specs.swreq_derive as swreq_derive
pub use Rattle.swreq_lexicon.specs as swreq_lexicon
pub use Rattle.swreq_lowering.specs as swreq_lowering
pub mod Places
pub mod Worlds
pub mod ByTable
pub mod Declarations
pub mod Text
pub mod WorldOf
pub mod Filling
pub mod Entries
pub mod Own
pub mod Inside
pub mod Lookups
pub mod FactsAt
pub mod Inheritance
pub mod Made
pub mod Ready
pub mod Closed
pub mod TextOver
pub mod ReadBack
pub mod Short
pub mod Additions
