pub use Rattle.swreq_minimal.proofs.swreq_canonical as swreq_canonical
pub mod Along
pub mod Appending
pub mod Judging
pub mod OneAnswer
mod Agreeing
mod Ended
mod Lines
mod Minimising
pub mod OfText
pub mod PrintingAlike
pub mod PrintingOnce
mod Reading
mod Systems
