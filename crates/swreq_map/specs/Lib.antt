pub use Rattle.swreq_complete.specs.swreq_word as swreq_word
pub use Rattle.swreq_complete.specs.swreq_rule as swreq_rule
pub use Rattle.swreq_complete.specs.swreq_pair as swreq_pair
pub use Rattle.swreq_complete.specs.swreq_watch as swreq_watch
pub use Rattle.swreq_complete.specs as swreq_complete
pub mod Properties
pub mod Follows
