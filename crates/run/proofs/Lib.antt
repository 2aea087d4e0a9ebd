pub mod Starting
pub mod Told
pub mod Playing
