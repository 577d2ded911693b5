pub mod Weights
pub mod Example
pub mod NegativeExample
pub mod RunExample
pub mod RunningExample
pub mod GoalsExample
pub mod SelfExample
pub mod ReasonExample
