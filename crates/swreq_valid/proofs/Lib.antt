pub use Rattle.swreq_world.proofs.swreq_resolve as swreq_resolve
pub use Rattle.swreq_rounds.proofs.swreq_derive as swreq_derive
pub use Rattle.swreq_world.proofs.swreq_lowering as swreq_lowering
pub use Rattle.swreq_world.proofs as swreq_world
pub use Rattle.swreq_complete.proofs.swreq_watch as swreq_watch
pub use Rattle.swreq_rounds.proofs.swreq_correspondence as swreq_correspondence
pub use Rattle.swreq_rounds.proofs as swreq_rounds
pub use Rattle.swreq_symbols.proofs as swreq_symbols
pub mod Flagged
pub mod Planning
pub mod Running
pub mod Turned
pub mod Taken
pub mod ByReduction
pub mod FirstSide
pub mod Deriving
pub mod Listing
pub mod OfProtocols
pub mod Building
pub mod Valid
pub mod Made
pub mod Transfer
pub mod Once
pub mod OfKept
pub mod Early
pub mod Naming
pub mod OneList
pub mod Retold
pub mod FromBase
pub mod Linking
