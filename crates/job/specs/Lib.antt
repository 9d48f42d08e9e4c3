pub mod Pass
pub mod PassLaw
pub mod Steps
