-- Document 01, 'What a call says', W2 and W5: lawful meshes and compatible labellings, as named facts, and as what is computed: the number
-- of the refusal and the lowest node or row at fault. Assumes nothing.
use Rattle.std.specs.Prelude.{Bool, true, not, ◌&&◌, ◌||◌, ◌≡◌, ◌≢◌, ◌⊎◌, ℕ, ◌≤◌, ◌<◌, leb, eqb, ℤ, pos, negsuc, nat_abs, ◌<ℤ◌, ◌≤ℤ◌, length, get_or, take, Option, Some, None, is_some}
use mathlib.Core.List.{List, Memᴰ}
use Rattle.std.specs.Int.Signed.{lt_z}
use Rattle.lists.specs.Lists.{any, count, joined, where_first, All}
use Rattle.lists.specs.Search.{lowest}
use Rattle.meaning.specs.Fault.{Fault}
use Rattle.meaning.specs.Mesh.{Place, Correction, Node, Tri, Mesh, Arrow, tri, arrows, base, same_arrow, same_edge, holds_node, holds_arrow, holds_edge, node_of, twice_area}

-- ---- as facts

-- "Coordinates from −1,048,576 to 1,048,576, both ends allowed."
pub record InRange (a : Place) : Type 0 where
  pub x-near : nat_abs a.x ≤ 1_048_576
  pub y-near : nat_abs a.y ≤ 1_048_576

-- W5: "dx and dy from −32,768 to 32,767", both ends allowed
pub record InBounds (c : Correction) : Type 0 where
  pub dx-from : negsuc 32_767 ≤ℤ c.dx
  pub dx-to : c.dx ≤ℤ pos 32_767
  pub dy-from : negsuc 32_767 ≤ℤ c.dy
  pub dy-to : c.dy ≤ℤ pos 32_767

-- a node whose place and correction are in their ranges
pub record NodeInRange (a : Node) : Type 0 where
  pub place_in : InRange a.place
  pub correction-in : InBounds a.correction

-- not "a triangle names a node ≥ n, or one node twice"
pub record Named (n : ℕ) (t : Tri) : Type 0 where
  pub p-below : t.p < n
  pub q-below : t.q < n
  pub r-below : t.r < n
  pub p≢q : t.p ≢ t.q
  pub q≢r : t.q ≢ t.r
  pub r≢p : t.r ≢ t.p

-- "A mesh that draws none of 1 and 3 to 7 is lawful." (1 is about tables: see Calls)
pub record Lawful (m : Mesh) : Type 0 where
  -- not 3: "a coordinate of a node below n is outside its range"; W5: "a value out of range, stored"
  pub range : All NodeInRange m.nodes
  -- not 4
  pub named : All (Named (length m.nodes)) m.tris
  -- not 5: "a directed edge occurs twice"
  pub no_twice : (e : Arrow) → count (same_arrow e) (joined arrows m.tris) ≤ 1
  -- not 6: "a triangle's twice-area is not above 0"
  pub positive : All (λ t. pos 0 <ℤ twice_area m t) m.tris
  -- not 7: "a node below n is in no triangle"
  pub used : (z : ℕ) → z < length m.nodes → 1 ≤ count (holds_node z) m.tris

-- the row i
abbrev pub row_of : List Tri → ℕ → Tri
row_of ts i = get_or ts i (tri 0 0 0)

-- when each of 3 to 7 applies, line by line
pub data Applies (m : Mesh) : ℕ → Type 0 where
  -- 3 "a coordinate of a node below n is outside its range"; W5: "a value out of range, stored .., is refused as 3"
  out_of_range : (k : ℕ) → k < length m.nodes → ¬ NodeInRange (node_of m k) → Applies m 3
  -- 4 "a triangle names a node ≥ n, or one node twice"
  misnames : (i : ℕ) → i < length m.tris → ¬ Named (length m.nodes) (row_of m.tris i) → Applies m 4
  -- 5 "a directed edge occurs twice"
  occurs-twice : (e : Arrow) → 2 ≤ count (same_arrow e) (joined arrows m.tris) → Applies m 5
  -- 6 "a triangle's twice-area is not above 0"
  not-above : (i : ℕ) → i < length m.tris → ¬ (pos 0 <ℤ twice_area m (row_of m.tris i)) → Applies m 6
  -- 7 "a node below n is in no triangle"
  in-none : (z : ℕ) → z < length m.nodes → count (holds_node z) m.tris ≡ 0 → Applies m 7

-- "The lowest number that applies is given, and none is given otherwise" (0: none)
pub record LowestOf (A : ℕ → Type 0) (k : ℕ) : Type 0 where
  pub applies : 0 < k → A k
  pub no_lower : (j : ℕ) → A j → (0 < k) × (k ≤ j)

abbrev pub Lowest : Mesh → ℕ → Type 0
Lowest m = LowestOf (Applies m)

-- z is the lowest of 0 to end − 1 at fault, all below it being sound
pub record First (end : ℕ) (Faulty Sound : ℕ → Type 0) (z : ℕ) : Type 0 where
  pub below : z < end
  pub at-fault : Faulty z
  pub sound-below : (j : ℕ) → j < z → Sound j

-- row i has "a directed edge that a lower row already has"
pub record Repeats (ts : List Tri) (i : ℕ) : Type 0 where
  pub edge : Arrow
  pub other : ℕ
  pub other-lower : other < i
  pub here : Memᴰ edge (arrows (row_of ts i))
  pub there : Memᴰ edge (arrows (row_of ts other))

-- 0 to 2, and 8 and above
abbrev pub Other : ℕ → Type 0
Other k = (k < 3) ⊎ (7 < k)

-- W2: what an answer names with its number, line by line. "Refusals 3 to 7 are to carry the lowest offending number as well:"
pub data Names (m : Mesh) : ℕ → ℕ → Type 0 where
  -- "a node for 3 and 7,"
  names-3 : {z : ℕ} → First (length m.nodes) (λ j. ¬ NodeInRange (node_of m j)) (λ j. NodeInRange (node_of m j)) z → Names m 3 z
  names-7 : {z : ℕ} → First (length m.nodes) (λ j. count (holds_node j) m.tris ≡ 0) (λ j. 1 ≤ count (holds_node j) m.tris) z → Names m 7 z
  -- "a triangle for 4 and 6,"
  names-4 : {z : ℕ} → First (length m.tris) (λ i. ¬ Named (length m.nodes) (row_of m.tris i)) (λ i. Named (length m.nodes) (row_of m.tris i)) z → Names m 4 z
  names-6 : {z : ℕ} → First (length m.tris) (λ i. ¬ (pos 0 <ℤ twice_area m (row_of m.tris i))) (λ i. pos 0 <ℤ twice_area m (row_of m.tris i)) z → Names m 6 z
  -- "and for 5 the lowest triangle with a directed edge that a lower row already has."
  names-5 : {z : ℕ} → First (length m.tris) (Repeats m.tris) (λ i. ¬ Repeats m.tris i) z → Names m 5 z
  -- "All other answers, later numbers too, carry 0 there."
  names-none : (k : ℕ) → Other k → Names m k 0

-- "Compatible: wherever another triangle holds a triangle's refinement edge, it is that one's refinement edge too."
abbrev pub Compatible : Mesh → Type 0
Compatible m = All (λ t. All (λ u. holds_edge (base t) u ≡ true → base t ≡ base u) m.tris) m.tris

-- ---- as tests of one node or one row; yes: it is at fault

abbrev pub far : ℤ → Bool
far z = not (leb (nat_abs z) 1_048_576)

-- 3: of a place,
abbrev pub outside : Place → Bool
outside a = far a.x || far a.y

abbrev pub too_long : ℤ → Bool
too_long z = lt_z z (negsuc 32_767) || lt_z (pos 32_767) z

-- of a correction,
abbrev pub beyond : Correction → Bool
beyond c = too_long c.dx || too_long c.dy

-- and of a node: "place or correction, one judgement"
abbrev pub node_outside : Node → Bool
node_outside a = outside a.place || beyond a.correction

-- 4
abbrev pub misnamed : ℕ → Tri → Bool
misnamed n t = leb n t.p || leb n t.q || leb n t.r || eqb t.p t.q || eqb t.q t.r || eqb t.r t.p

-- 5: row i has a directed edge that a lower row already has
abbrev pub repeats : List Tri → ℕ → Bool
repeats ts i = any (λ e. any (holds_arrow e) (take i ts)) (arrows (row_of ts i))

-- 6
abbrev pub flat : Mesh → Tri → Bool
flat m t = not (lt_z (pos 0) (twice_area m t))

-- 7
abbrev pub unused : List Tri → ℕ → Bool
unused ts z = not (any (holds_node z) ts)

-- 10: another triangle holds the refinement edge of t, and not as its own refinement edge
abbrev pub clashes : List Tri → Tri → Bool
clashes ts t = any (λ u. holds_edge (base t) u && not (same_edge (base t) (base u))) ts

-- ---- as the lowest node or row at fault, and the number

unfoldable pub first_outside : Mesh → Option ℕ
first_outside m = where_first node_outside m.nodes

unfoldable pub first_misnamed : Mesh → Option ℕ
first_misnamed m = where_first (misnamed (length m.nodes)) m.tris

unfoldable pub first_repeat : Mesh → Option ℕ
first_repeat m = lowest (repeats m.tris) 0 (length m.tris)

unfoldable pub first_flat : Mesh → Option ℕ
first_flat m = where_first (flat m) m.tris

unfoldable pub first_unused : Mesh → Option ℕ
first_unused m = lowest (unused m.tris) 0 (length m.nodes)

unfoldable pub first_clash : Mesh → Option ℕ
first_clash m = where_first (clashes m.tris) m.tris

abbrev pub fault : ℕ → ℕ → Fault
fault k i = record { number = k; at = i }

-- number k, if something is found; else the rest
abbrev pub or_later : ℕ → Option ℕ → Fault → Fault
or_later k (Some i) rest = fault k i
or_later k None rest = rest

-- 4 to 7, else the rest
abbrev pub from4 : Mesh → Fault → Fault
from4 m rest =
    or_later 4 (first_misnamed m)
    (or_later 5 (first_repeat m)
    (or_later 6 (first_flat m)
    (or_later 7 (first_unused m)
    rest)))

-- "The lowest number that applies is given, and none is given otherwise": of 3 to 7
unfoldable pub fault_of : Mesh → Fault
fault_of m = or_later 3 (first_outside m) (from4 m (fault 0 0))

unfoldable pub refusal : Mesh → ℕ
refusal m = (fault_of m).number

unfoldable pub compatible : Mesh → Bool
compatible m = not (is_some (first_clash m))
