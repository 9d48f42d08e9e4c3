-- The border of a mesh as it is put into scratch, and the tests of `clear` on it. Seen: an arrow as the code sees it, and the tests. SeenLaw: what is read is so.
-- FarLaw: arrows whose keys do not overlap need no other test. LookLaw: one arrow beside another, and all beside all, as Clear.antt says. TurnsLaw: the loops.
-- Listed, ListedLaw: the border arrows, listed row by row. Steps: laws of single steps. Assumes nothing.
pub mod Seen
pub mod FarLaw
pub mod SeenLaw
pub mod LookLaw
pub mod TurnsLaw
pub mod Listed
pub mod ListedLaw
pub mod RangeAll
pub mod Steps
