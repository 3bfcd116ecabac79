pub use Rattle.swreq_canonical.proofs.swreq_param as swreq_param
pub use Rattle.swreq_rounds.proofs.swreq_watch as swreq_watch
pub use Rattle.swreq_rounds.proofs.swreq_complete as swreq_complete
pub use Rattle.swreq_canonical.proofs.swreq_correspondence as swreq_correspondence
pub use Rattle.swreq_canonical.proofs as swreq_canonical
pub mod Longer
pub mod LessParts
pub mod Searches
pub mod Inherited
pub mod InsideBlocks
pub mod Blocks
pub mod Cuts
pub mod OneBlock
pub mod Ends
pub mod Parts
pub mod Settled
pub mod ReadOver
pub mod ShorterTypes
pub mod SameTypes
pub mod AllSettled
pub mod ReadOff
pub mod Deciding
pub mod Completions
pub mod CandidateLists
pub mod RulesGive
pub mod EvidenceDrops
