pub mod Eighths
pub mod Rounds
pub mod Seasons
pub mod Handed
