pub mod Placing
pub mod Tables
pub mod Undoing
pub mod Room
pub mod Timely
