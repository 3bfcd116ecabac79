pub mod SecondParts
pub mod Laying
pub mod Judgements
pub mod Found
pub mod Claims
pub mod Listing
pub mod Turns
pub mod Outputs
