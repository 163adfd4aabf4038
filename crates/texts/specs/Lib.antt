pub mod Lists
pub mod Short
