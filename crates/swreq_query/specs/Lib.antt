pub use Rattle.swreq_minimal.specs.swreq_canonical as swreq_canonical
pub use Rattle.swreq_minimal.specs as swreq_minimal
pub mod Answers
pub mod Asked
pub mod Signatures
pub mod Minimising
pub mod Systems
pub mod Ended
