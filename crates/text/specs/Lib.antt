pub mod Text
pub mod Printing
pub mod Lines
pub mod Passes
pub mod RunTexts
