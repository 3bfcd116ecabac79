pub mod Heads
pub mod Members
pub mod Pairs
pub mod Readings
pub mod Systems
pub mod Types
pub mod Unfolding
