pub mod Induction
pub mod Elements
pub mod Members
pub mod Numbers
pub mod Orderings
pub mod Stable
