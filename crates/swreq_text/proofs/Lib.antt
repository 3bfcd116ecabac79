pub mod SoFar
pub mod Grown
pub mod Lined
pub mod LineEnds
pub mod Divided
