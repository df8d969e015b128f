pub mod Tuples
pub mod Answers
pub mod Order
pub mod Laws
pub mod inner
