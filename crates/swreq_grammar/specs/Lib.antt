pub mod Grammar
pub mod Refusal
pub mod Reader
pub mod Gives
