pub use Rattle.swreq_word.proofs.swreq_lemmas as swreq_lemmas
pub use Rattle.swreq_word.proofs as swreq_word
pub mod Numbers
pub mod Overlapping
pub mod Context
pub mod Search
pub mod Downward
pub mod Below
pub mod RedexBelow
pub mod Places
pub mod Replace
pub mod Remaining
pub mod Same
pub mod Resuming
