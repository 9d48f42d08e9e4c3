pub mod Nodes
pub mod NodesLaw
pub mod PlacedLaw
pub mod OddLaw
pub mod Steps
