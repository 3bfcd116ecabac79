pub mod DerivationLemmas
pub mod KeptLines
pub mod KeyLemmas
pub mod SetMarks
