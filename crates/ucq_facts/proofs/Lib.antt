pub mod Matching
mod Places
mod Pushed
mod Indexed
mod Inserted
