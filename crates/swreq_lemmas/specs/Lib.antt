pub mod WellFounded
