pub mod Trail
pub mod Matched
pub mod Found
pub mod Ordered
pub mod Homs
pub mod Noted
pub mod Signatures
