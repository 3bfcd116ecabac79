pub use Rattle.swreq_correspondence.proofs.swreq_derive as swreq_derive
pub use Rattle.swreq_complete.proofs.swreq_rule as swreq_rule
pub use Rattle.swreq_complete.proofs.swreq_pair as swreq_pair
pub use Rattle.swreq_complete.proofs.swreq_watch as swreq_watch
pub use Rattle.swreq_complete.proofs as swreq_complete
pub use Rattle.swreq_correspondence.proofs as swreq_correspondence
pub mod OneOutcome
pub mod Presented
pub mod Members
pub mod LastRound
pub mod Growing
pub mod Fronts
pub mod Turning
