pub mod Lettered
pub mod Only
pub mod Kindless
pub mod Agreeing
