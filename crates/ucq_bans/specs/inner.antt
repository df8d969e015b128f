-- Words of contracts that no other crate sees.
pub mod Search
pub mod Images
pub mod Parts
