pub mod Operations
pub mod Outcomes
