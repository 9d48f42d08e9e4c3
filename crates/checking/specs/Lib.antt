pub mod Clash
pub mod ClashLaw
pub mod Outlined
pub mod Check
pub mod Steps
