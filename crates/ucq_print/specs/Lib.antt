pub mod Texts
pub mod Compared
pub mod Refusals
pub mod Laws
pub mod Rows
