-- Words of contracts that no other crate sees.
pub mod Classes
pub mod Search
pub mod Sides
pub mod Growing
