pub use Rattle.swreq_rank.specs as swreq_rank
pub mod Spaces
pub mod Parts
pub mod Directories
pub mod Inheritance
pub mod Names
pub mod Mentioned
pub mod Walk
pub mod WordBytes
