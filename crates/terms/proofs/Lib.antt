pub mod Sets
pub mod TokenScans
pub mod Reader
pub mod Checking
pub mod EquationKinds
