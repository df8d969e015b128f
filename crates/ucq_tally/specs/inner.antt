-- Words of contracts that no other crate sees.
pub mod Asked
pub mod Counts
pub mod Sums
