pub mod Tests
pub mod TestsLaw
pub mod MarkLaw
pub mod MeshLaw
pub mod FaultLaw
