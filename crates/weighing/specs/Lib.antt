pub mod Weighing
pub mod MeanLaw
pub mod Steps
