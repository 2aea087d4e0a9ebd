pub mod Terms
pub mod Takes
pub mod Reading
pub mod Bodies
pub mod Judging
pub mod Found
pub mod Ops
pub mod Promises
