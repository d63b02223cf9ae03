pub mod Stepping
pub mod Falling
pub mod Arrived
