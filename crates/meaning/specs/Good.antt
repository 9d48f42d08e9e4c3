-- Document 01, 'Good nodes': G1 to G5, as named facts and as tests. Assumes nothing.
use Rattle.std.specs.Prelude.{Bool, true, false, not, ◌&&◌, ◌||◌, List, [], ◌∷◌, ◌≡◌, ℕ, zero, suc, ◌≤◌, ◌<◌, eqb, leb, ltb, ℤ, ◌+ℤ◌, length, Option, None, Some}
use Rattle.std.specs.Int.Signed.{le_z}
use Rattle.lists.specs.Lists.{all, any, only, first, up_to, All}
use Rattle.meaning.specs.Mesh.{Place, Tri, Mesh, Edge, tri, edge, arrow, same_edge, same_tri, holds_node, holds_arrow, holds_edge, at}

-- the rows that hold z
abbrev pub rows_of : Mesh → ℕ → List Tri
rows_of m z = only (holds_node z) m.tris

-- ---- as facts

-- M is the exact midpoint of A and B
pub record Middle (M A B : Place) : Type 0 where
  pub x-middle : M.x +ℤ M.x ≡ A.x +ℤ B.x
  pub y-middle : M.y +ℤ M.y ≡ A.y +ℤ B.y

-- the lowest row that holds z and is neither of two
abbrev pub lowest_left : Mesh → ℕ → Tri → Tri → Option Tri
lowest_left m z t u = first (λ v. not (same_tri t v) && not (same_tri u v)) (rows_of m z)

-- "there are 2 or 4 of these", and G2: "The lowest such row is (z, a, b); the row holding a→z is (z, c, a). With 4, the lowest
-- row not yet used is (z, d, c), and the row holding d→z is (z, b, d)."
pub data Paired (m : Mesh) (z b c : ℕ) : Type 0 where
  two : (a : ℕ) → length (rows_of m z) ≡ 2 →
      first (holds_node z) m.tris ≡ Some (tri z a b) → first (holds_arrow (arrow a z)) m.tris ≡ Some (tri z c a) → Paired m z b c
  four : (a d : ℕ) → length (rows_of m z) ≡ 4 →
      first (holds_node z) m.tris ≡ Some (tri z a b) → first (holds_arrow (arrow a z)) m.tris ≡ Some (tri z c a) →
      lowest_left m z (tri z a b) (tri z c a) ≡ Some (tri z d c) → first (holds_arrow (arrow d z)) m.tris ≡ Some (tri z b d) → Paired m z b c

-- z meets G1 to G4 with the pair b, c
pub record Meets (m : Mesh) (z b c : ℕ) : Type 0 where
  -- G1 "z is the newest vertex of every triangle that holds it" (and 2 or 4 of them: see Paired)
  pub newest : All (λ t. t.p ≡ z) (rows_of m z)
  -- G2
  pub paired : Paired m z b c
  -- G3 "z is the exact midpoint of b and c."
  pub middle : Middle (at m z) (at m b) (at m c)
  -- G4 "No triangle holds the edge b–c, either way round."
  pub free : All (λ t. holds_edge (edge b c) t ≡ false) m.tris

-- "Node z ≥ n0 is good when"
pub record Good (n0 : ℕ) (m : Mesh) (z : ℕ) : Type 0 where
  pub added : n0 ≤ z
  pub b : ℕ
  pub c : ℕ
  pub meets : Meets m z b c
  -- G5 "No other node numbered n0 or above meets G1 to G4 with the same pair b, c, in either order."
  pub alone : (y b' c' : ℕ) → n0 ≤ y → y < length m.nodes → Meets m y b' c' → edge b c ≡ edge b' c' → y ≡ z

-- ---- as tests

-- two rows that were one: left (z, a, b) and right (z, c, a), of the father (a, b, c)
pub record Brothers : Type 0 where
  pub left : Tri
  pub right : Tri

abbrev pub brothers : Tri → Tri → Brothers
brothers l r = record { left = l; right = r }

-- "The left row becomes (a, b, c), and with 4 the other becomes (d, c, b)"
abbrev pub father : Brothers → Tri
father b = tri b.left.q b.left.r b.right.q

abbrev pub add_pair : Tri → Option Tri → (Tri → List Brothers) → List Brothers
add_pair t None rest = []
add_pair t (Some u) rest = brothers t u ∷ rest u

-- the lowest row (z, a, b) with the row that holds a→z; then again, of the rows not yet used; at most k times
abbrev pub pair_off : ℕ → ℕ → List Tri → List Brothers
pair_off zero z ts = []
pair_off (suc k) z [] = []
pair_off (suc k) z (t ∷ ts) =
    add_pair t (first (holds_arrow (arrow t.q z)) ts) (λ u. pair_off k z (only (λ v. not (same_tri u v)) ts))

unfoldable pub pairs : Mesh → ℕ → List Brothers
pairs m z = pair_off 2 z (rows_of m z)

abbrev pub span_of : List Brothers → Edge
span_of [] = edge 0 0
span_of (x ∷ xs) = edge x.left.r x.right.q

-- the pair b, c of z
unfoldable pub span : Mesh → ℕ → Edge
span m z = span_of (pairs m z)

-- "z is the newest vertex of every triangle that holds it, and there are 2 or 4 of these."
abbrev pub G1 : Mesh → ℕ → Bool
G1 m z = all (λ t. eqb t.p z) (rows_of m z) && (eqb (length (rows_of m z)) 2 || eqb (length (rows_of m z)) 4)

-- a pair (z, a, b), (z, c, a); with 4 rows two, and the second is (z, d, c), (z, b, d)
abbrev pub closes : Bool → List Brothers → Bool
closes b [] = false
closes false (x ∷ xs) = true
closes true (x ∷ []) = false
closes true (x ∷ y ∷ zs) = eqb y.left.r x.right.q && eqb y.right.q x.left.r

-- "The lowest such row is (z, a, b); the row holding a→z is (z, c, a). With 4, the lowest row not yet used is (z, d, c), and the
-- row holding d→z is (z, b, d)."
abbrev pub G2 : Mesh → ℕ → Bool
G2 m z = closes (eqb (length (rows_of m z)) 4) (pairs m z)

abbrev pub same_z : ℤ → ℤ → Bool
same_z a b = le_z a b && le_z b a

abbrev pub is_middle : Place → Place → Place → Bool
is_middle M A B = same_z (M.x +ℤ M.x) (A.x +ℤ B.x) && same_z (M.y +ℤ M.y) (A.y +ℤ B.y)

-- "z is the exact midpoint of b and c."
abbrev pub G3 : Mesh → ℕ → Bool
G3 m z = is_middle (at m z) (at m (span m z).lo) (at m (span m z).hi)

-- "No triangle holds the edge b–c, either way round."
abbrev pub G4 : Mesh → ℕ → Bool
G4 m z = not (any (holds_edge (span m z)) m.tris)

unfoldable pub G1-4 : Mesh → ℕ → Bool
G1-4 m z = G1 m z && G2 m z && G3 m z && G4 m z

-- "No other node numbered n0 or above meets G1 to G4 with the same pair b, c, in either order."
abbrev pub G5 : ℕ → Mesh → ℕ → Bool
G5 n0 m z =
    all (λ y. ltb y n0 || eqb y z || not (G1-4 m y) || not (same_edge (span m z) (span m y))) (up_to (length m.nodes))

-- "Node z ≥ n0 is good .. when"
unfoldable pub good : ℕ → Mesh → ℕ → Bool
good n0 m z = leb n0 z && G1-4 m z && G5 n0 m z
