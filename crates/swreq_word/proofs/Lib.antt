pub use Rattle.swreq_lemmas.proofs as swreq_lemmas
pub mod Chains
pub mod Newman
pub mod SymbolsFounded
pub mod WordsFounded
pub mod Comparing
pub mod Cuts
pub mod SameSymbols
pub mod Tables
pub mod Congruence
pub mod LeastWords
