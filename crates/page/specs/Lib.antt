pub mod Room
pub mod Pages
