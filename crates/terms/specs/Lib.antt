pub mod Checks
pub mod EquationKinds
