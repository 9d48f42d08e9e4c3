-- Document 01, 'What the device holds': nodes, triangles, edges, twice-area. Assumes nothing.
use Rattle.std.specs.Prelude.{Bool, ◌&&◌, ◌||◌, List, [], ◌∷◌, ℕ, min, max, eqb, ℤ, pos, ◌+ℤ◌, ◌-ℤ◌, ◌*ℤ◌, get_or}
use Rattle.lists.specs.Lists.{any}
-- "A node is a place (x, y)"; W5: "Each node is to carry its stretch correction, dx and dy"
pub use Rattle.meaning.specs.declared.Place.{Place}
pub use Rattle.meaning.specs.declared.Correction.{Correction}
pub use Rattle.meaning.specs.declared.Node.{Node}
-- "A triangle is three .. node numbers (p, q, r), counted from 0. The first, p, is its newest vertex"
pub use Rattle.meaning.specs.declared.Tri.{Tri}

pub record Mesh : Type 0 where
  pub nodes : List Node
  pub tris : List Tri

-- a directed edge, from one node to the other
pub record Arrow : Type 0 where
  pub from : ℕ
  pub to : ℕ

-- an undirected edge: its two nodes, the lower first. Made by `edge` alone, so that edge a b ≡ edge b a
pub record Edge : Type 0 where
  pub lo : ℕ
  pub hi : ℕ

abbrev pub place : ℤ → ℤ → Place
place a b = record { x = a; y = b }

abbrev pub correction : ℤ → ℤ → Correction
correction a b = record { dx = a; dy = b }

abbrev pub node : Place → Correction → Node
node a c = record { place = a; correction = c }

abbrev pub tri : ℕ → ℕ → ℕ → Tri
tri a b c = record { p = a; q = b; r = c }

abbrev pub arrow : ℕ → ℕ → Arrow
arrow a b = record { from = a; to = b }

abbrev pub edge : ℕ → ℕ → Edge
edge a b = record { lo = min a b; hi = max a b }

abbrev pub mesh : List Node → List Tri → Mesh
mesh ns ts = record { nodes = ns; tris = ts }

-- "Its directed edges are p→q, q→r, r→p."
abbrev pub arrows : Tri → List Arrow
arrows t = arrow t.p t.q ∷ arrow t.q t.r ∷ arrow t.r t.p ∷ []

-- "q–r is its refinement edge"
abbrev pub base : Tri → Edge
base t = edge t.q t.r

-- its edges, in the order of the scan: "the edges q–r, p–q, r–p"
abbrev pub edges : Tri → List Edge
edges t = base t ∷ edge t.p t.q ∷ edge t.r t.p ∷ []

-- ---- tests

abbrev pub same_edge : Edge → Edge → Bool
same_edge d e = eqb d.lo e.lo && eqb d.hi e.hi

abbrev pub same_arrow : Arrow → Arrow → Bool
same_arrow d e = eqb d.from e.from && eqb d.to e.to

abbrev pub same_tri : Tri → Tri → Bool
same_tri t u = eqb t.p u.p && eqb t.q u.q && eqb t.r u.r

abbrev pub holds_node : ℕ → Tri → Bool
holds_node z t = eqb t.p z || eqb t.q z || eqb t.r z

abbrev pub holds_arrow : Arrow → Tri → Bool
holds_arrow e t = any (same_arrow e) (arrows t)

abbrev pub holds_edge : Edge → Tri → Bool
holds_edge e t = any (same_edge e) (edges t)

-- ---- nodes and places

-- a node that carries no correction
abbrev pub plain : Place → Node
plain a = node a (correction (pos 0) (pos 0))

abbrev pub origin : Node
origin = plain (place (pos 0) (pos 0))

-- node k
abbrev pub node_of : Mesh → ℕ → Node
node_of m k = get_or m.nodes k origin

-- the place of node k: all that is asked of a node but for its correction
abbrev pub at : Mesh → ℕ → Place
at m k = (node_of m k).place

-- "Twice-area is (xq−xp)(yr−yp) − (xr−xp)(yq−yp), over whole numbers."
abbrev pub turn : Place → Place → Place → ℤ
turn P Q R = (Q.x -ℤ P.x) *ℤ (R.y -ℤ P.y) -ℤ (R.x -ℤ P.x) *ℤ (Q.y -ℤ P.y)

unfoldable pub twice_area : Mesh → Tri → ℤ
twice_area m t = turn (at m t.p) (at m t.q) (at m t.r)

abbrev pub sum : (Tri → ℤ) → List Tri → ℤ
sum f [] = pos 0
sum f (t ∷ ts) = f t +ℤ sum f ts

-- the total twice-area
unfoldable pub total : Mesh → ℤ
total m = sum (twice_area m) m.tris
