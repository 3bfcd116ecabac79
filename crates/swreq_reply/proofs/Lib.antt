pub use Rattle.swreq_query.proofs.swreq_canonical as swreq_canonical
pub use Rattle.swreq_valid.proofs.swreq_rounds as swreq_rounds
pub use Rattle.swreq_reqsig.proofs as swreq_reqsig
pub use Rattle.swreq_query.proofs as swreq_query
pub use Rattle.swreq_check.proofs as swreq_check
pub mod Explained
pub mod Misfits
pub mod OfCalls
pub mod OneOutput
pub mod OneRefusal
pub mod Printed
pub mod Staged
pub mod Untold
pub mod Verdicts
pub mod ByBook
pub mod Counted
