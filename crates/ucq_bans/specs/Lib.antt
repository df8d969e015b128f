pub mod Conflicts
pub mod Verdicts
pub mod Laws
pub mod inner
