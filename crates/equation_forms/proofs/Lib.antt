pub mod Outcomes
pub mod Tests
pub mod Numbers
pub mod Cutting
pub mod Cursors
pub mod EachEquation
