-- Words of contracts that no other crate sees.
pub mod Building
pub mod Walked
