pub mod Prefixes
pub mod Numbers
pub mod Classed
pub mod Clashes
