pub mod Keeping
pub mod Passing
pub mod Walking
pub mod Starting
pub mod Consuming
