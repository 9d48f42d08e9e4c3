pub mod Arrow
pub mod Put
pub mod PutLaw
pub mod Steps
