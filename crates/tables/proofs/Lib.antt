pub mod Arrays
pub mod Tests
pub mod Scans
pub mod Zipped
pub mod Values
pub mod Checking
pub mod Numbers
