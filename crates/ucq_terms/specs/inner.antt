-- Words of contracts that no other crate sees.
pub mod Texts
