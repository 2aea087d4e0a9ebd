pub mod RootPlace
pub mod LoadedLaws
