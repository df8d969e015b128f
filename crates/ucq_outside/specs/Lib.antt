pub mod Causes
pub mod Shelves
pub mod Sinks
pub mod Edges
pub mod Taken
pub mod inner
