pub mod Running
pub mod Calling
