pub mod Space
pub mod Bindings
pub mod Search
pub mod Levels
pub mod Signature
