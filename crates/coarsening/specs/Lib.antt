pub mod Coarsen
pub mod Steps
