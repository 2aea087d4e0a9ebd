pub mod Choice
pub mod Options
pub mod Lists
pub mod Tests
pub mod OptionLaws
pub mod ListLaws
