pub mod Turns
pub mod MovesOn
