pub use Rattle.swreq_print.specs as swreq_print
pub mod Pieces
pub mod LineTexts
pub mod GoodLines
pub mod Written
pub mod Writing
pub mod Reader
