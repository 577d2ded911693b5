pub mod EveryGroup
pub mod Splitting
pub mod Pieces
pub mod Narrowing
pub mod Inclusion
pub mod FirstVariables
pub mod MeetingSets
