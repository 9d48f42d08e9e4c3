pub mod Cutting
pub mod PutRowsLaw
pub mod CutLaw
pub mod MeshLaw
pub mod Steps
