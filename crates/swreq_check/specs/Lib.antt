pub use Rattle.swreq_confpath.specs as swreq_confpath
pub mod CallLines
pub mod Called
pub mod Checks
pub mod Contents
pub mod Lines
pub mod Listing
pub mod Machines
pub mod Made
pub mod Passed
pub mod Settings
pub mod Told
pub mod Wanted
pub mod QueryLines
