pub use Rattle.swreq_machine.specs as swreq_machine
pub mod Arguments
pub mod Calls
pub mod Refusals
pub mod Refused
pub mod Saying
pub mod Words
pub mod Failing
pub mod Lines
