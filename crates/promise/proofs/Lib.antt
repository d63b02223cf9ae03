pub mod Making
pub mod Turns
pub mod Abreast
pub mod Kept
pub mod Few
pub mod Living
pub mod Second
pub mod Twins
