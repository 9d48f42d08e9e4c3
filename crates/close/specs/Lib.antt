pub mod Drawn
pub mod DrawLaw
pub mod EdgeLaw
pub mod ChainLaw
pub mod CloseLaw
pub mod Steps
