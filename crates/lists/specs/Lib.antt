pub mod WorkingLists
pub mod Widening
pub mod Filters
pub mod Comings
