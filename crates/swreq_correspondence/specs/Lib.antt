pub use Rattle.swreq_derive.specs.swreq_param as swreq_param
pub use Rattle.swreq_derive.specs as swreq_derive
pub use Rattle.swreq_word.specs as swreq_word
pub mod Symbols
pub mod Equations
pub mod Readings
pub mod Shown
pub mod Types
pub mod Worked
