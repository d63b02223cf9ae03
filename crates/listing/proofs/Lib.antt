pub mod Writing
pub mod Coming
pub mod Row
pub mod Room
pub mod Totals
pub mod Summing
pub mod Listed
pub mod Reported
