pub mod AnyRowTold
pub mod OneAnswer
pub mod PointMeshesKept
pub mod RefinedAsked
