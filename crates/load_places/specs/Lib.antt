pub mod Search
pub mod Records
pub mod Rules
pub mod Index
pub mod Order
