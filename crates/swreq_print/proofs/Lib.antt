pub use Rattle.swreq_rule.proofs.swreq_lemmas as swreq_lemmas
pub use Rattle.swreq_lexicon.proofs.swreq_closure as swreq_closure
pub use Rattle.swreq_lexicon.proofs.swreq_rank as swreq_rank
pub use Rattle.swreq_lexicon.proofs.swreq_lex as swreq_lex
pub use Rattle.swreq_lexicon.proofs.swreq_param as swreq_param
pub use Rattle.swreq_lexicon.proofs as swreq_lexicon
pub use Rattle.swreq_lowering.proofs as swreq_lowering
pub use Rattle.swreq_rule.proofs.swreq_word as swreq_word
pub use Rattle.swreq_rule.proofs as swreq_rule
pub mod Cutting
pub mod Digits
pub mod ReadSignatures
pub mod ReadTypes
pub mod Steps
pub mod Telling
mod Where
mod Failing
