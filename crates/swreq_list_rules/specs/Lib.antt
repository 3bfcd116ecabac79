pub mod Settings
pub mod ListRules
