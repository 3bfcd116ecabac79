pub mod Routes
pub mod Tried
pub mod Numbers
pub mod Spots
pub mod Parting
pub mod Searches
