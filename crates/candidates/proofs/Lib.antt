pub mod Sets
pub mod RowEnds
pub mod ProceduresAsFolds
pub mod RowsGrown
pub mod LowestFirst
