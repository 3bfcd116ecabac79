pub use Rattle.swreq_rank.proofs.swreq_lemmas as swreq_lemmas
pub use Rattle.swreq_rank.proofs as swreq_rank
pub mod Firsts
pub mod Pieces
pub mod Declaring
pub mod Beginnings
pub mod Heirs
pub mod Walked
pub mod Bytes
mod Walk
pub mod Whole
