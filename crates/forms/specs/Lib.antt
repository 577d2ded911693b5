pub mod TableForms
pub mod Listings
