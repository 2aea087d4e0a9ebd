pub mod Arity
pub mod Entries
pub mod Faults
pub mod Sizes
pub mod Spans
pub mod Stands
