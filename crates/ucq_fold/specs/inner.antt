-- Words of contracts that no other crate sees.
pub mod Agreement
pub mod Placing
