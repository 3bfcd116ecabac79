pub use Rattle.swreq_derive.proofs.swreq_lemmas as swreq_lemmas
pub use Rattle.swreq_derive.proofs.swreq_param as swreq_param
pub use Rattle.swreq_derive.proofs as swreq_derive
pub use Rattle.swreq_correspondence.proofs.swreq_word as swreq_word
pub use Rattle.swreq_correspondence.proofs as swreq_correspondence
pub mod ReducedLemmas
pub mod Ordered
pub mod Sorting
pub mod Following
pub mod Sides
pub mod Sufficing
pub mod Covering
pub mod Taking
pub mod Dropping
pub mod Agreement
