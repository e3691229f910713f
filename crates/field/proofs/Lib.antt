pub mod InARow
pub mod Records
pub mod Same
