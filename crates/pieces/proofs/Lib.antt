pub mod Parts
pub mod Bounds
pub mod Taking
pub mod Handing
pub mod HoweverCut
