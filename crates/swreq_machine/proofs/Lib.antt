pub use Rattle.swreq_map.proofs.swreq_lemmas as swreq_lemmas
pub use Rattle.swreq_valid.proofs.swreq_derive as swreq_derive
pub use Rattle.swreq_valid.proofs.swreq_lowering as swreq_lowering
pub use Rattle.swreq_valid.proofs.swreq_world as swreq_world
pub use Rattle.swreq_map.proofs.swreq_pair as swreq_pair
pub use Rattle.swreq_map.proofs.swreq_complete as swreq_complete
pub use Rattle.swreq_valid.proofs.swreq_correspondence as swreq_correspondence
pub use Rattle.swreq_valid.proofs.swreq_rounds as swreq_rounds
pub use Rattle.swreq_valid.proofs.swreq_symbols as swreq_symbols
pub use Rattle.swreq_valid.proofs as swreq_valid
pub mod Listing
pub mod Shown
pub mod Made
pub mod Answering
pub mod Deciding
pub mod Firsts
pub mod Typed
pub mod Reducing
pub mod Telling
pub mod OfSignatures
