pub mod Lists
pub mod Rule
pub mod Steps
pub mod Values
pub mod Calls
pub use Rattle.atomic_table.specs.Seated
pub use Rattle.atomic_table.specs.Table
pub mod Laws
