pub use Rattle.swreq_closure.specs as swreq_closure
pub use Rattle.swreq_names.specs.swreq_rank as swreq_rank
pub use Rattle.swreq_decl.specs as swreq_decl
pub use Rattle.swreq_names.specs as swreq_names
pub mod First
pub mod Refusals
pub mod Errors
pub mod FirstWords
pub mod Cycles
pub mod Resolving
pub mod Refused
pub mod RefusedTypes
