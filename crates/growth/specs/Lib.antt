-- Demand 3: what refining, coarsening and setting make of a compatibly labelled base goes back to the base. Read Demand3 first; then Labels (names
-- and labels, no mesh), Rows to Restoring (meshes), OnTables (tables).
pub mod Labels
pub mod Rows
pub mod GrownFrom
pub mod Goodness
pub mod Coarsening
pub mod SplitRows
pub mod Refining
pub mod Correcting
pub mod Restoring
pub mod OnTables
pub mod Demand3
