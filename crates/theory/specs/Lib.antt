pub mod Orders
pub mod Closed
pub mod Lookups
pub mod Method
pub mod Written
pub mod Theorem
