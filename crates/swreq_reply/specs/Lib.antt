pub use Rattle.swreq_valid.specs.swreq_complete as swreq_complete
pub use Rattle.swreq_query.specs.swreq_canonical as swreq_canonical
pub use Rattle.swreq_valid.specs.swreq_rounds as swreq_rounds
pub use Rattle.swreq_valid.specs.swreq_symbols as swreq_symbols
pub use Rattle.swreq_valid.specs as swreq_valid
pub use Rattle.swreq_subst.specs.swreq_machine as swreq_machine
pub use Rattle.swreq_reqsig.specs as swreq_reqsig
pub use Rattle.swreq_verify.specs as swreq_verify
pub use Rattle.swreq_query.specs as swreq_query
pub use Rattle.swreq_gen.specs as swreq_gen
pub use Rattle.swreq_check.specs as swreq_check
pub mod Explained
pub mod Inputs
pub mod Outputs
pub mod Pieces
pub mod Replies
pub mod Reports
pub mod Requests
pub mod Stages
pub mod Told
pub mod Verdict
pub mod Commands
