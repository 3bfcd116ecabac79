mod Replacing
mod Numbering
mod Refusing
mod Steps
mod Named
pub mod Staying
mod Calling
mod Lining
pub mod Uses
mod Unknown
mod Ordering
mod Ids
mod Refused
pub mod ByTable
pub mod OneCall
