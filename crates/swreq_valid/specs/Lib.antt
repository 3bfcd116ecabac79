pub use Rattle.swreq_world.specs.swreq_resolve as swreq_resolve
pub use Rattle.swreq_rounds.specs.swreq_param as swreq_param
pub use Rattle.swreq_rounds.specs.swreq_derive as swreq_derive
pub use Rattle.swreq_world.specs.swreq_lexicon as swreq_lexicon
pub use Rattle.swreq_world.specs.swreq_lowering as swreq_lowering
pub use Rattle.swreq_world.specs as swreq_world
pub use Rattle.swreq_complete.specs.swreq_watch as swreq_watch
pub use Rattle.swreq_complete.specs as swreq_complete
pub use Rattle.swreq_rounds.specs.swreq_correspondence as swreq_correspondence
pub use Rattle.swreq_rounds.specs as swreq_rounds
pub use Rattle.swreq_symbols.specs as swreq_symbols
pub mod Flags
pub mod Plans
pub mod Answers
pub mod Rounds
pub mod Sides
pub mod Built
pub mod Keeping
pub mod Early
pub mod Named
pub mod Again
pub mod ByReduction
pub mod Courses
pub mod Underway
pub mod Protocols
pub mod Checked
