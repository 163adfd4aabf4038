pub mod Law
pub mod Whole
pub mod Stand
pub mod Calls
pub mod Refusals
pub mod Served
