pub mod Refusals
pub mod Lists
pub mod Values
