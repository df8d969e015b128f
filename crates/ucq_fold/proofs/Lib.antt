pub mod Shrunk
pub mod Renamings
pub mod Placings
pub mod Forms
