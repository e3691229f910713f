pub mod Closed
pub mod Starts
pub mod Sound
pub mod Settled
pub mod Complete
pub mod Deciding
pub mod Cutting
pub mod Turned
