pub mod Tests
pub mod Exact
pub mod Exclusive
pub mod Laws
