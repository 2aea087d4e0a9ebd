pub mod OperatorSays
pub mod RunningFacts
pub mod OperandOps
pub mod JumpEventOps
pub mod MoveLoops
pub mod MovedLists
pub mod CallRecordOps
