-- Words of contracts that no other crate sees.
pub mod Ending
pub mod Making
pub mod Parse
pub mod Placing
