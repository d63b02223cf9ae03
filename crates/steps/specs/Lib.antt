pub mod Shown
pub mod Legs
pub mod Openings
pub mod Written
pub mod Chained
