pub mod Questions
pub mod Lists
pub mod Spans
pub mod Order
pub mod Range
pub mod Values
