-- What W6 gains from W7, on a lawful mesh that draws neither 11 nor 12. Read OneAnswer (any row that holds a point tells it, in whatever order the
-- rows stand; a node's place tells what the node carries), Refined (refining by bisection changes no answer where the new means are exact) and
-- PointMeshes (by hand: what each premise is needed for). AnyRow is about two rows, Halves about a row and the parts that it is cut into.
pub mod AnyRow
pub mod Halves
pub mod Refined
pub mod PointMeshes
