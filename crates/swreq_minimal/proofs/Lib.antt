pub use Rattle.swreq_candidates.proofs.swreq_canonical as swreq_canonical
pub use Rattle.swreq_candidates.proofs as swreq_candidates
pub mod Equal
pub mod Giving
pub mod Typing
pub mod Speaking
pub mod Lifting
pub mod Inserting
pub mod ByParams
pub mod Collecting
pub mod Growing
pub mod Named
pub mod Completing
pub mod Passing
pub mod Halving
pub mod Ending
pub mod Telling
pub mod Whole
pub mod OfTextLists
pub mod PlainTypes
pub mod Showing
