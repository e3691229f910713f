pub mod Windows
pub mod Reversed
pub mod Held
pub mod Strip
pub mod Refusals
