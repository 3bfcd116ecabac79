pub use Rattle.swreq_rule.proofs.swreq_lemmas as swreq_lemmas
pub use Rattle.swreq_rule.proofs.swreq_word as swreq_word
pub use Rattle.swreq_rule.proofs as swreq_rule
pub use Rattle.swreq_pair.proofs as swreq_pair
pub use Rattle.swreq_path.proofs as swreq_path
pub use Rattle.swreq_watch.proofs as swreq_watch
pub mod Moments
pub mod Sides
pub mod Ended
pub mod Soundness
pub mod Joining
pub mod LeastWords
pub mod Progress
pub mod Equations
pub mod PairOrder
pub mod Closed
pub mod Agreement
pub mod Outcome
pub mod Telling
pub mod Listing
pub mod Indexing
pub mod Layers
pub mod Places
pub mod AllPlaces
pub mod Sorting
pub mod ReducedSystem
pub mod OneReduced
pub mod Answering
pub mod Replaying
pub mod Short
pub mod Alike
