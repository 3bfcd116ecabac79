pub use Rattle.swreq_grammar.specs as swreq_grammar
pub use Rattle.swreq_lex.specs as swreq_lex
pub mod Terminals
pub mod Kinds
pub mod Source
pub mod Skeletons
pub mod Calls
pub mod Written
pub mod Spellings
pub mod Signatures
