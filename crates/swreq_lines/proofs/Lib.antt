pub use Rattle.swreq_print.proofs.swreq_closure as swreq_closure
pub use Rattle.swreq_print.proofs.swreq_rank as swreq_rank
pub mod Back
pub mod Cuts
pub mod Digits
pub mod Grown
pub mod LineWords
pub mod Names
pub mod NamesOfText
pub mod Numbered
pub mod OneLine
pub mod OneStep
pub mod ReadLines
pub mod ReadNumbers
pub mod RuleNames
pub mod RuleWords
pub mod SameIds
pub mod SoFar
pub mod StatementWords
pub mod TypeWords
