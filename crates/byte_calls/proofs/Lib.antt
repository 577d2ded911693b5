pub mod AfterChecks
pub mod Written
pub mod SmallerPart
