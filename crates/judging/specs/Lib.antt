pub mod Sizes
pub mod Marks
pub mod Judge
pub mod Leaving
pub mod Steps
