-- Words of contracts that no other crate sees.
pub mod Chains
pub mod Index
pub mod Sets
pub mod Walks
