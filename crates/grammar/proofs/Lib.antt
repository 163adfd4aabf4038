pub mod Counted
pub mod Widths
