pub use Rattle.swreq_lex.proofs as swreq_lex
pub mod Slices
pub mod Predictive
pub mod Growing
pub mod Answering
pub mod AnsweringCalls
pub mod SameTexts
pub mod Factoring
pub mod Separating
pub mod AsWritten
pub mod WrittenOrder
