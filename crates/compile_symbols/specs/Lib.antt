pub mod Numbers
pub mod Meaning
pub mod Packed
pub mod Tabled
pub mod Entries
pub mod Classes
pub mod Whole
