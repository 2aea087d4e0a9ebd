pub mod EachOp
pub mod Address
pub mod Verdict
pub mod Views
