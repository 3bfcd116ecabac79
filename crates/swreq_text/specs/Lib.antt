pub mod Counted
pub mod Faults
pub mod Given
pub mod Memory
pub mod Joined
pub mod Lines
pub mod Divided
