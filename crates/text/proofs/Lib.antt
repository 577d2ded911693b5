pub mod Writing
pub mod Printing
pub mod PartByPart
pub mod Blocks
pub mod RunByEquations
pub mod LongestText
