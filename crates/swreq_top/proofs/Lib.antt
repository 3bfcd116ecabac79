pub mod Contracts
pub mod Delivering
pub mod EmptyText
pub mod Headlines
pub mod InOrder
pub mod WellFormed
