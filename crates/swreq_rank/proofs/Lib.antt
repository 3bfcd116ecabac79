pub use Rattle.swreq_lemmas.proofs as swreq_lemmas
pub mod Rising
pub mod Names
pub mod Pushed
pub mod Tests
mod Search
