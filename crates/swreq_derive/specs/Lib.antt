pub use Rattle.swreq_param.specs.swreq_lemmas as swreq_lemmas
pub use Rattle.swreq_param.specs as swreq_param
pub mod Derivation
pub mod Substitution
pub mod WellFormed
pub mod Reduced
pub mod Equivalence
pub mod Inheritance
pub mod Worked
pub mod Plain
pub mod Facts
pub mod Instances
pub mod Sides
pub mod Lines
pub mod Paths
pub mod Kept
