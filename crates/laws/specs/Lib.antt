pub mod Steps
pub mod Kept
pub mod Laws
pub mod Chains
pub mod Spelled
pub mod Listed
