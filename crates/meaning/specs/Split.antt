-- Document 01, 'Splitting': the split edges, the numbers of the new nodes, the rows of one triangle, the refined mesh.
-- A way to refine says which edges of a marked triangle start the split set, and how one triangle is cut. Assumes nothing.
use Rattle.std.specs.Prelude.{Bool, true, false, not, ◌&&◌, List, [], ◌∷◌, ◌++◌, map, ℕ, zero, suc, ◌+◌, ◌%◌, eqb, ℤ, pos, ◌+ℤ◌, nat_abs, length, Option, Some, None}
use Rattle.std.specs.Int.Signed.{quot_z}
use Rattle.lists.specs.Lists.{all, any, cases, only, once, first, where_first, joined, All}
use Rattle.meaning.specs.declared.Manner.{Manner}
use Rattle.meaning.specs.declared.Manner.TheVariants.{Newest, AllThree}
use Rattle.meaning.specs.declared.Quarters.{Quarters}
use Rattle.meaning.specs.declared.Quarters.TheVariants.{Bisected, Red}
use Rattle.meaning.specs.Rounding.{floor}
use Rattle.meaning.specs.Mesh.{Place, Correction, Node, Tri, Mesh, Edge, place, correction, node, tri, edge, edges, base, same_edge, node_of, at, mesh}

-- ---- the split edges

-- a set that holds the starting edges "and, for each triangle with an edge in the set, its refinement edge"
pub record Closed (ts : List Tri) (start : List Edge) (S : Edge → Type 0) : Type 0 where
  pub holds : All S start
  pub pull : All (λ t. All (λ e. S e → S (base t)) (edges t)) ts

abbrev pub mem_edge : Edge → List Edge → Bool
mem_edge e s = any (same_edge e) s

-- t has an edge in the set, and its refinement edge is not there yet
abbrev pub pulls : List Edge → Tri → Bool
pulls s t = any (λ e. mem_edge e s) (edges t) && not (mem_edge (base t) s)

abbrev pub add_base : Option Tri → List Edge → (List Edge → List Edge) → List Edge
add_base None s more = s
add_base (Some t) s more = more (base t ∷ s)

-- while a row pulls: the lowest such row's refinement edge is added; at most k times
abbrev pub grow : ℕ → List Tri → List Edge → List Edge
grow zero ts s = s
grow (suc k) ts s = add_base (first (pulls s) ts) s (grow k ts)

-- "the least set": each row is added for at most once, so as many steps as rows are enough
unfoldable pub closure : List Tri → List Edge → List Edge
closure ts start = grow (length ts) ts start

-- "scanning triangles by row and in each the edges q–r, p–q, r–p; an edge gets its number when first met":
-- the split edges in the order of their numbers
unfoldable pub split_edges : Mesh → List Edge → List Edge
split_edges m start =
    let s : List Edge = closure m.tris start in
    once same_edge (only (λ e. mem_edge e s) (joined edges m.tris))

-- ---- numbers and places

abbrev pub plus : ℕ → Option ℕ → Option ℕ
plus n None = None
plus n (Some k) = Some (n + k)

-- "Number new nodes from n upward"
abbrev pub number_of : ℕ → List Edge → Edge → Option ℕ
number_of n s e = plus n (where_first (same_edge e) s)

abbrev pub even : ℤ → Bool
even z = eqb (nat_abs z % 2) 0

abbrev pub half : ℤ → ℤ
half z = quot_z z (pos 2)

-- not "an edge to be split has an odd sum of x or of y"
abbrev pub halves : Mesh → Edge → Bool
halves m e = even ((at m e.lo).x +ℤ (at m e.hi).x) && even ((at m e.lo).y +ℤ (at m e.hi).y)

-- "The place is the exact midpoint."
abbrev pub midpoint : Mesh → Edge → Place
midpoint m e = place (half ((at m e.lo).x +ℤ (at m e.hi).x)) (half ((at m e.lo).y +ℤ (at m e.hi).y))

-- W5: "the mean of the two ends, rounded down (−3 and 0 give −2)"
abbrev pub mean : Correction → Correction → Correction
mean c d = correction (floor (c.dx +ℤ d.dx) (pos 2)) (floor (c.dy +ℤ d.dy) (pos 2))

-- the node that a split edge gets
abbrev pub new_node : Mesh → Edge → Node
new_node m e = node (midpoint m e) (mean (node_of m e.lo).correction (node_of m e.hi).correction)

-- ---- the rows of one triangle

-- the row that keeps the father's place, and the rows that are appended
pub record Cut : Type 0 where
  pub kept : Tri
  pub added : List Tri

abbrev pub cut : Tri → List Tri → Cut
cut k a = record { kept = k; added = a }

-- a triangle with the numbers of its midpoints m of q–r, u of p–q, v of r–p, where these edges are split
abbrev pub Cutting : Type 0
Cutting = Tri → Option ℕ → Option ℕ → Option ℕ → Cut

-- "Bisecting (a, b, c) at m, the midpoint of b–c, gives left (m, a, b) and right (m, c, a)":
-- "m only: (m,p,q), (m,r,p); m, u: left becomes (u,m,p), (u,q,m); m, v: right becomes (v,m,r), (v,p,m); all: both."
-- "The left child, or its own left child, keeps the father's row. Appended ..: the right child or its left; then (u,q,m) if
-- made; then (v,p,m) if made."
abbrev pub bisected : Cutting
bisected t None u v = cut t []
bisected t (Some m) None None = cut (tri m t.p t.q) (tri m t.r t.p ∷ [])
bisected t (Some m) (Some u) None = cut (tri u m t.p) (tri m t.r t.p ∷ tri u t.q m ∷ [])
bisected t (Some m) None (Some v) = cut (tri m t.p t.q) (tri v m t.r ∷ tri v t.p m ∷ [])
bisected t (Some m) (Some u) (Some v) = cut (tri u m t.p) (tri v m t.r ∷ tri u t.q m ∷ tri v t.p m ∷ [])

-- W8: "a triangle with all three edges split becomes (p,u,v) on the father's row and then (u,q,m), (v,m,r), (m,v,u) appended. One or two split
-- edges are cut as in 01."
abbrev pub red : Cutting
red t None u v = bisected t None u v
red t (Some m) None v = bisected t (Some m) None v
red t (Some m) (Some u) None = bisected t (Some m) (Some u) None
red t (Some m) (Some u) (Some v) = cut (tri t.p u v) (tri u t.q m ∷ tri v m t.r ∷ tri m v u ∷ [])

abbrev pub cutting_of : Quarters → Cutting
cutting_of Bisected = bisected
cutting_of Red = red

-- the cut of one triangle, s being the split edges in order
abbrev pub cut_of : Cutting → ℕ → List Edge → Tri → Cut
cut_of c n s t =
    c t (number_of n s (edge t.q t.r)) (number_of n s (edge t.p t.q)) (number_of n s (edge t.r t.p))

-- ---- the refined mesh

-- "Appended at the end, fathers in row order"
unfoldable pub split_at : Cutting → Mesh → List Edge → Mesh
split_at c m s =
    mesh (m.nodes ++ map (new_node m) s)
    (map (λ t. (cut_of c (length m.nodes) s t).kept) m.tris ++
    joined (λ t. (cut_of c (length m.nodes) s t).added) m.tris)

-- the mesh refined from any starting edges, by any cut
unfoldable pub split : Cutting → Mesh → List Edge → Mesh
split c m start = split_at c m (split_edges m start)

-- ---- ways to refine

pub record Way : Type 0 where
  -- the edges that start the split set, of a marked triangle
  pub starts : Tri → List Edge
  pub cutting : Cutting

-- the edges of a marked triangle that start the split set, in each manner.
-- 01: "the refinement edge of every marked triangle"; W1: "all three edges of a marked triangle start the split set"
abbrev pub starts_of : Manner → Tri → List Edge
starts_of Newest t = base t ∷ []
starts_of AllThree t = edges t

abbrev pub way_of : Manner → Quarters → Way
way_of k q = record { starts = starts_of k; cutting = cutting_of q }

-- 01's way
abbrev pub newest : Way
newest = way_of Newest Bisected

-- W1's way: "a marked triangle cut in four at once"; "closure, numbering and row order stay"
abbrev pub all_three : Way
all_three = way_of AllThree Bisected

-- W8's way: "start and close as in W1, but a triangle with all three edges split" is cut red
abbrev pub in_red : Way
in_red = way_of AllThree Red

abbrev pub if_marked : Bool → List Edge → List Edge → List Edge
if_marked true e s = e ++ s
if_marked false e s = s

-- the starting edges of the marked rows
abbrev pub started : (Tri → List Edge) → List ℕ → List Tri → List Edge
started f [] ts = []
started f (k ∷ ks) [] = []
started f (k ∷ ks) (t ∷ ts) = if_marked (eqb k 1) (f t) (started f ks ts)

unfoldable pub refined : Way → Mesh → List ℕ → Mesh
refined w m marks = split w.cutting m (started w.starts marks m.tris)

-- ---- red cuts

-- "with all three edges split", s being the split edges
abbrev pub wholly : List Edge → Tri → Bool
wholly s t = all (λ e. mem_edge e s) (edges t)

-- W8: 1 "when it made a red cut, else 0"
abbrev pub red_made : Quarters → List Edge → List Tri → ℕ
red_made Bisected s ts = 0
red_made Red s ts = cases (any (wholly s) ts) 1 0
