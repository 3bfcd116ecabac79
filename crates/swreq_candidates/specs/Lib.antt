pub use Rattle.swreq_rounds.specs.swreq_watch as swreq_watch
pub use Rattle.swreq_canonical.specs as swreq_canonical
pub mod Blocks
pub mod Candidates
pub mod Completed
pub mod Worked
pub mod Evidence
