pub mod Law
pub mod Whole
pub mod Stand
pub mod Served
pub mod Printed
