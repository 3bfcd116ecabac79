pub use Rattle.swreq_lemmas.proofs as swreq_lemmas
pub mod TotalOrder
pub mod Founded
pub mod Comparing
pub mod Steps
pub mod SameEntries
pub mod TermsOfEntries
pub mod DistinctEntries
pub mod Interning
pub mod Growing
pub mod DecidedIds
