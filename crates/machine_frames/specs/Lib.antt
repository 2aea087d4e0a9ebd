pub mod Bytes
pub mod On
pub mod Trimmed
