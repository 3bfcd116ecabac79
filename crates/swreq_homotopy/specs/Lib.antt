pub use Rattle.swreq_rule.specs.swreq_word as swreq_word
pub use Rattle.swreq_pair.specs as swreq_pair
pub use Rattle.swreq_path.specs as swreq_path
pub mod Evidence
pub mod Search
pub mod Laws
pub mod Loops
