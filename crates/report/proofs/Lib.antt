pub mod Fitting
pub mod Inputs
pub mod Within
pub mod Demand3
pub mod Endings
