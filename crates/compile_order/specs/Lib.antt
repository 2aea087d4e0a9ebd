pub mod Entries
pub mod Limited
pub mod Around
pub mod Classes
pub mod Typed
pub mod Named
pub mod Whole
pub mod Order
