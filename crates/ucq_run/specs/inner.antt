-- Words of contracts that no other crate sees.
pub mod Comparing
pub mod Reading
pub mod Request
pub mod Solved
pub mod Written
