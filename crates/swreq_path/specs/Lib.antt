pub mod Paths
pub mod Inverse
pub mod Reductions
pub mod Laws
