pub mod Notes
pub mod Log
