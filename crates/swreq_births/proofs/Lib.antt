pub use Rattle.swreq_param.proofs as swreq_param
pub use Rattle.swreq_complete.proofs.swreq_watch as swreq_watch
pub mod Alike
pub mod Asking
pub mod Births
pub mod Ends
pub mod Equations
pub mod Headed
pub mod PairParts
pub mod PathSteps
pub mod Readings
pub mod ShownSteps
