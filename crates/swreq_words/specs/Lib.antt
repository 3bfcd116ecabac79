pub mod Commands
pub mod Numbers
pub mod Form
pub mod Reading
pub mod Meant
pub mod Taken
pub mod Found
