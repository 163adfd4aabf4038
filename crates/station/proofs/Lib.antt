pub mod Whole
pub mod Links
pub mod Serves
