pub use Rattle.swreq_valid.specs.swreq_resolve as swreq_resolve
pub use Rattle.swreq_valid.specs.swreq_param as swreq_param
pub use Rattle.swreq_valid.specs.swreq_derive as swreq_derive
pub use Rattle.swreq_valid.specs.swreq_lexicon as swreq_lexicon
pub use Rattle.swreq_valid.specs.swreq_lowering as swreq_lowering
pub use Rattle.swreq_valid.specs.swreq_world as swreq_world
pub use Rattle.swreq_map.specs.swreq_rule as swreq_rule
pub use Rattle.swreq_map.specs.swreq_pair as swreq_pair
pub use Rattle.swreq_map.specs.swreq_watch as swreq_watch
pub use Rattle.swreq_map.specs.swreq_complete as swreq_complete
pub use Rattle.swreq_map.specs as swreq_map
pub use Rattle.swreq_valid.specs.swreq_correspondence as swreq_correspondence
pub use Rattle.swreq_valid.specs.swreq_rounds as swreq_rounds
pub use Rattle.swreq_valid.specs.swreq_symbols as swreq_symbols
pub use Rattle.swreq_valid.specs as swreq_valid
pub mod Machines
pub mod Asked
pub mod LeastTypes
pub mod Having
pub mod OfSignatures
