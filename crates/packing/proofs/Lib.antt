pub mod Back
pub mod Tables
pub mod Parts
pub mod Suffixes
pub mod Unused
pub mod Bytes
