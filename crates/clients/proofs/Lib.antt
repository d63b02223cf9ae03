pub mod Memories
pub mod Starting
pub mod TakesOver
