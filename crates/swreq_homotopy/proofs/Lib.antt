pub use Rattle.swreq_rule.proofs.swreq_word as swreq_word
pub use Rattle.swreq_pair.proofs as swreq_pair
pub mod Others
pub mod RoundTrip
pub mod Without
mod PairSteps
mod Through
