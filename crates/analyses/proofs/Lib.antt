pub mod Nulls
pub mod Decided
pub mod Stands
pub mod Search
pub mod Rounds
