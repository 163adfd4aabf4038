pub mod Heads
pub mod Reading
pub mod Steps
pub mod Verdict
pub mod Faults
