pub mod Rewritings
pub mod inner
