pub mod Settle
pub mod Operations
pub mod Types
pub mod Settles
