pub mod EquationForms
