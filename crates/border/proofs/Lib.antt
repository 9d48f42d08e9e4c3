pub mod ClearLaw
pub mod Safe
pub mod Exact
pub mod Unmet
