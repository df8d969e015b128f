pub mod Collected
pub mod Contained
pub mod Following
pub mod Spared
