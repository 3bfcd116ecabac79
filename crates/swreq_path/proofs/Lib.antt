pub mod Leading
pub mod Links
pub mod Reducing
