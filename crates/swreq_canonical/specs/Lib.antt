pub use Rattle.swreq_derive.specs.swreq_param as swreq_param
pub use Rattle.swreq_derive.specs as swreq_derive
pub use Rattle.swreq_correspondence.specs.swreq_word as swreq_word
pub use Rattle.swreq_correspondence.specs as swreq_correspondence
pub mod Canonical
pub mod CanonicalOrder
pub mod Generators
pub mod Minimised
pub mod Worked
