-- Words of contracts that no other crate sees.
pub mod ByHead
pub mod Progress
pub mod Shared
