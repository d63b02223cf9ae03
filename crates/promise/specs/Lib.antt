pub mod Spans
pub mod Worlds
pub mod Made
pub mod Kept
pub mod Pairs
pub mod Takeovers
pub mod Histories
