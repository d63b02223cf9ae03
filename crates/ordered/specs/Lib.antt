pub mod Rows
pub mod Laws
pub mod Orders
pub mod Keyed
pub mod Items
