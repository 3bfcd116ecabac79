pub mod Meaning
pub mod Known
pub mod Overs
pub mod Vanishing
pub mod Fronts
pub mod Readings
pub mod Texts
