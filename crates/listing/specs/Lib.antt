pub mod Pages
pub mod Keys
pub mod Sums
pub mod Lines
pub mod Reports
