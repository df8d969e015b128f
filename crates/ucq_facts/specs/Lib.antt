pub mod Facts
pub mod Postings
pub mod Index
