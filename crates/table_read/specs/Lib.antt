pub mod Filling
pub mod Operands
pub mod Walk
