-- Words of contracts that no other crate sees.
pub mod Copies
pub mod Naming
pub mod Search
