pub mod Extended
pub mod Usable
pub mod Parting
pub mod ByEquation
pub mod Growing
