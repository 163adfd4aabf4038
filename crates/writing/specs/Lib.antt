pub mod Wrote
pub mod Walk
