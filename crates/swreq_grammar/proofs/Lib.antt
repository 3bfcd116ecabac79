pub mod Sets
pub mod Beginning
pub mod Reading
pub mod Exact
pub mod Whole
pub mod Labels
pub mod LabelsRead
pub mod Repeating
