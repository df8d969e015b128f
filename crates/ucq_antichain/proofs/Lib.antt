pub mod Pruned
pub mod Words
pub mod Among
pub mod Links
pub mod Listed
pub mod Indexed
pub mod Walked
