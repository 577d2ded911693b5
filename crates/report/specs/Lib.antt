pub mod Reports
pub mod Endings
