pub mod Checked
pub mod OfKinds
pub mod Applying
pub mod Demand2
pub mod Exclusive
pub mod ZeroPast
