pub mod EquationsRegrouped
