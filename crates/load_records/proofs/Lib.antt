pub mod Search
pub mod Tests
pub mod Known
pub mod Passing
pub mod Whole
