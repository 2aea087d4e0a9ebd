pub mod EmitEntry
pub mod EmitEntryLaws
pub mod Opens
