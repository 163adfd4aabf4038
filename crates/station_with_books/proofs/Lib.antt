pub mod Whole
pub mod Links
pub mod Promises
pub mod Asks
pub mod Serves
