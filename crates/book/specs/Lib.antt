pub mod States
pub mod Called
