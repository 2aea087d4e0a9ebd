pub mod OnceBlocks
pub mod EnteredBlocks
