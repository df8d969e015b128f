pub mod Even
pub mod Orders
pub mod Sets
pub mod Overlaps
pub mod Labels
pub mod Tells
pub mod Steps
pub mod Given
