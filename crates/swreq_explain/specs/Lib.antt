pub mod Asked
pub mod Histories
pub mod Numbering
pub mod Rounds
pub mod Stating
pub mod Uses
pub mod Written
