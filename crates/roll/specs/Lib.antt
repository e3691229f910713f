pub mod Faults
pub mod Records
pub mod Stages
pub mod Meaning
pub mod Names
pub mod Playing
pub mod Written
pub mod RoundTrip
