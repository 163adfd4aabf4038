pub mod Puts
pub mod Spelled
pub mod Ends
pub mod Turns
pub mod Held
pub mod Digits
