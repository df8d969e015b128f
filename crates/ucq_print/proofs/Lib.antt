pub mod Lines
mod Spelled
mod ReadBack
mod LineFeeds
mod ToldLines
pub mod Unions
pub mod CutTexts
pub mod Headers
mod ComparingLines
pub mod SectionTexts
pub mod InputNames
pub mod InputLabels
pub mod Stored
pub mod HeldNames
pub mod InputHeld
