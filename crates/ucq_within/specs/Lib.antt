pub mod Containment
pub mod Minimal
pub mod Needless
pub mod inner
