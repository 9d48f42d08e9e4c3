-- W7: "two nodes stand at one place or a node lies strictly inside an edge" (11), "two triangles share an interior point" (12). What these mean is
-- said in crate meaning, Proper. Read Flawless (refine, coarsen, restore and set keep a mesh lawful and proper) and ProperLaw (the tests are exact).
-- Apart to Tested are about two triangles, OnLine, Between and Segment about places on a line. Sums says what a proper mesh is in terms of its nodes alone;
-- Corners to FaithfulProper, that this is the same. Fine to SplitProper are about refining, WithoutProper about coarsening.
-- Check: the base check gives each number exactly when its line says.
pub mod Apart
pub mod Convex
pub mod Radon
pub mod Helly
pub mod Sharing
pub mod Tested
pub mod OnLine
pub mod Between
pub mod Segment
pub mod Sums
pub mod Corners
pub mod EdgesMeet
pub mod ProperFaithful
pub mod FaithfulProper
pub mod Fine
pub mod FineEdges
pub mod Dissects
pub mod SplitProper
pub mod WithoutProper
pub mod Flawless
