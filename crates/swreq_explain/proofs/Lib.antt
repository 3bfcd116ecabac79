pub mod AlphabetLemmas
pub mod AskedLemmas
pub mod Fronts
pub mod HistoryLemmas
pub mod Makings
pub mod NumberingLemmas
pub mod RoundLemmas
pub mod SideLemmas
pub mod Standing
pub mod TextLines
pub mod UseLemmas
mod ReadRounds
