pub mod Saturated
pub mod Walked
pub mod Asked
