pub mod Largest
pub mod Searching
pub mod Verdicts
pub mod Exact
pub mod Exclusive
pub mod Agreement
