pub mod TestExits
pub mod TypeRows
pub mod StandingLaws
pub mod InspectionTells
