pub mod Goes
pub mod Needs
pub mod Closing
pub mod GoneLaw
pub mod Whole
pub mod WholeLaw
pub mod Steps
