pub mod Contract
pub mod Headline
pub mod InOrder
pub mod Run
pub mod Steps
