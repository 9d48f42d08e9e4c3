pub mod Refine
pub mod RefineLaw
pub mod Steps
