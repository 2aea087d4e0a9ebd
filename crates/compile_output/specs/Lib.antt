pub mod EmitRecord
pub mod EmitCode
pub mod Rows
pub mod LoopRows
