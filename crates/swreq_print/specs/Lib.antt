pub use Rattle.swreq_rule.specs.swreq_lemmas as swreq_lemmas
pub use Rattle.swreq_lexicon.specs.swreq_lex as swreq_lex
pub use Rattle.swreq_lexicon.specs.swreq_decl as swreq_decl
pub use Rattle.swreq_lexicon.specs.swreq_names as swreq_names
pub use Rattle.swreq_lexicon.specs.swreq_param as swreq_param
pub use Rattle.swreq_lexicon.specs.swreq_derive as swreq_derive
pub use Rattle.swreq_lexicon.specs as swreq_lexicon
pub use Rattle.swreq_lowering.specs as swreq_lowering
pub use Rattle.swreq_rule.specs.swreq_word as swreq_word
pub use Rattle.swreq_rule.specs as swreq_rule
pub mod Names
pub mod Types
pub mod Signatures
pub mod Rules
pub mod Refusals
pub mod Reading
