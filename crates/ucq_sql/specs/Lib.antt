pub mod Places
pub mod Algebra
pub mod Tables
pub mod Selects
pub mod Text
pub mod Laws
pub mod Comments
