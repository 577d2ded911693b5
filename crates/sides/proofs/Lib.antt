pub mod PieceLoop
pub mod MatchedEntries
