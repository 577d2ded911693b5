pub mod Covering
pub mod Sets
