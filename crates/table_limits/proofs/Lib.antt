pub mod Steps
pub mod Trees
pub mod Bodies
