pub use Rattle.swreq_decl.specs.swreq_grammar as swreq_grammar
pub use Rattle.swreq_rank.specs as swreq_rank
pub use Rattle.swreq_decl.specs.swreq_lex as swreq_lex
pub use Rattle.swreq_decl.specs as swreq_decl
pub use Rattle.swreq_names.specs as swreq_names
pub use Rattle.swreq_derive.specs.swreq_param as swreq_param
pub use Rattle.swreq_derive.specs as swreq_derive
pub mod Lexicons
pub mod Associated
pub mod Heirs
pub mod Keys
pub mod Symbols
pub mod Views
pub mod Texts
pub mod PlaceSets
