-- The rows of a split mesh, by number: a father's row holds the part that is kept; the parts that are appended follow, fathers in row order.
-- So a left child always stands before its brother. Assumes nothing.
use Rattle.std.specs.Prelude.{List, ◌++◌, map, ◌≡◌, ℕ, ◌+◌, ◌<◌, length, get_or, Option, None, Some}
use Rattle.std.proofs.Math.Path.{refl}
use Rattle.std.proofs.Common.{sym, subst, ap, ap₂, ◌∙◌, arith, length-append, get_or-append-add}
use Rattle.std.proofs.lemmas.List.{length-map}
use Rattle.std.proofs.Math.ListN.{get_or-map, get_or-append}
use Rattle.lists.specs.Lists.{joined}
use Rattle.meaning.specs.declared.Tri.{Tri}
use Rattle.meaning.specs.Mesh.{Mesh, Edge, tri, edge, base}
use Rattle.meaning.specs.Lawful.{Lawful, row_of}
use Rattle.meaning.specs.Split.{Cut, Cutting, bisected, number_of, cut_of, split_at}
use Rattle.laws.specs.Pairs.{same_row}
use Rattle.growth.specs.Labels.Groups.{total, owner_at, joined_length, joined_at, sizes}
use Rattle.growth.specs.Labels.GrownRefined.{get_d_default}

-- ---- any cut

module _ (c : Cutting) (m : Mesh) (s : List Edge) where
  abbrev pub cut_at : Tri → Cut
  cut_at t = cut_of c (length m.nodes) s t

  abbrev keeps : Tri → Tri
  keeps t = (cut_at t).kept

  abbrev adds : Tri → List Tri
  adds t = (cut_at t).added

  -- How many rows are appended for the rows below j.
  abbrev pub rows-ahead : ℕ → ℕ
  rows-ahead j = total (sizes adds (tri 0 0 0) (tri 0 0 0) m.tris) j

  rows-split-are : (split_at c m s).tris ≡ map keeps m.tris ++ joined adds m.tris
  unfolding split_at
  rows-split-are = refl

  pub split-count : length (split_at c m s).tris ≡ length m.tris + rows-ahead (length m.tris)
  split-count =
      ap length rows-split-are ∙ length-append (map keeps m.tris) (joined adds m.tris)
      ∙ ap₂ ◌+◌ (length-map m.tris keeps) (joined_length adds (tri 0 0 0) (tri 0 0 0) m.tris)

  pub row-of-kept : (k : ℕ) → k < length m.tris → row_of (split_at c m s).tris k ≡ (cut_at (row_of m.tris k)).kept
  row-of-kept k l =
      let l' : k < length (map keeps m.tris) = rw (length-map m.tris keeps) l in
      ap (λ (ts : List Tri). get_or ts k (tri 0 0 0)) rows-split-are
      ∙ get_or-append (map keeps m.tris) (joined adds m.tris) (tri 0 0 0) k l'
      ∙ get_d_default (map keeps m.tris) k (tri 0 0 0) (keeps (tri 0 0 0)) l'
      ∙ get_or-map keeps m.tris k (tri 0 0 0)

  pub row-of-added : (j i : ℕ) → j < length m.tris → i < length (cut_at (row_of m.tris j)).added →
      row_of (split_at c m s).tris (length m.tris + (rows-ahead j + i)) ≡ get_or (cut_at (row_of m.tris j)).added i (tri 0 0 0)
  row-of-added j i lj li =
      ap₂ (λ (ts : List Tri) (k : ℕ). get_or ts (k + (rows-ahead j + i)) (tri 0 0 0)) rows-split-are (sym (length-map m.tris keeps))
      ∙ get_or-append-add (map keeps m.tris) (joined adds m.tris) (rows-ahead j + i) (tri 0 0 0)
      ∙ joined_at adds (tri 0 0 0) (tri 0 0 0) m.tris j i lj li

-- ---- bisection

-- "Bisecting (a, b, c) at m .. gives left (m, a, b) and right (m, c, a)."
abbrev pub left_child : Tri → ℕ → Tri
left_child t m = tri m t.p t.q

abbrev pub right_child : Tri → ℕ → Tri
right_child t m = tri m t.r t.p

-- a child, "or its own left child" where its refinement edge is split too
abbrev pub stands-as : Tri → Option ℕ → Tri
stands-as t None = t
stands-as t (Some m) = left_child t m

-- Row i holds a left child and row j, a later one, its brother.
pub record Before (ts : List Tri) (i j : ℕ) (l r : Tri) : Type 0 where
  pub left-row : row_of ts i ≡ l
  pub brother-row : row_of ts j ≡ r
  pub before : i < j
  pub inside : j < length ts

-- The brothers of a father (p, q, r) that was in row i, its refinement edge split at k, p–q at u and r–p at v where these are split.
pub record LeftFirst (ts : List Tri) (i : ℕ) (t : Tri) (k : ℕ) (u v : Option ℕ) : Type 0 where
  pub j : ℕ
  pub children : Before ts i j (stands-as (left_child t k) u) (stands-as (right_child t k) v)
  -- the children of a child that is split itself
  pub of_left : (a : ℕ) → u ≡ Some a → (h : ℕ) × Before ts i h (left_child (left_child t k) a) (right_child (left_child t k) a)
  pub of_right : (b : ℕ) → v ≡ Some b → (h : ℕ) × Before ts j h (left_child (right_child t k) b) (right_child (right_child t k) b)

-- the parts of a row that was in row i: the first there, the others in later rows, in order
pub record Placed (ts : List Tri) (i : ℕ) (x : Cut) : Type 0 where
  pub first-there : row_of ts i ≡ x.kept
  pub from : ℕ
  pub later : i < from
  pub then-there : (n : ℕ) → n < length x.added → (row_of ts (from + n) ≡ get_or x.added n (tri 0 0 0)) × (from + n < length ts)

pub parts-placed : (c : Cutting) (m : Mesh) (s : List Edge) (i : ℕ) → i < length m.tris → Placed (split_at c m s).tris i (cut_of c (length m.nodes) s (row_of m.tris i))
parts-placed c m s i l = record {
  first-there = row-of-kept c m s i l;
  from = length m.tris + rows-ahead c m s i;
  later = omega arith;
  then-there = λ n h.
      (let e : length m.tris + rows-ahead c m s i + n ≡ length m.tris + (rows-ahead c m s i + n) = omega arith in
      let o = (owner_at (sizes (adds c m s) (tri 0 0 0) (tri 0 0 0) m.tris) (length m.tris) i n l h).0 in
      (rw e (row-of-added c m s i n l h), omega (arith, split-count c m s)));
}

none-some : {A : Type 0} (a : ℕ) → None ≡ Some a → A
none-some a e = let z : ◌≡◌ {A = ℕ} 0 1 = cc in absurd (omega arith)

some-some : (a b : ℕ) → Some a ≡ Some b → a ≡ b
some-some a b e = cc

module _ {ts : List Tri} {i : ℕ} where
  -- the first part, and any other
  first-before : {x : Cut} (P : Placed ts i x) (n : ℕ) → n < length x.added → Before ts i (P.from + n) x.kept (get_or x.added n (tri 0 0 0))
  first-before P n h = let r = P.then-there n h in record { left-row = P.first-there; brother-row = r.0; before = omega (arith, P.later); inside = r.1 }

  -- two of the others
  other-before : {x : Cut} (P : Placed ts i x) (a b : ℕ) → a < b → b < length x.added →
      Before ts (P.from + a) (P.from + b) (get_or x.added a (tri 0 0 0)) (get_or x.added b (tri 0 0 0))
  other-before P a b l h =
      let r = P.then-there b h in
      record { left-row = (P.then-there a (omega arith)).0; brother-row = r.0; before = omega arith; inside = r.1 }

  in_order : (t : Tri) (k : ℕ) (u v : Option ℕ) → Placed ts i (bisected t (Some k) u v) → LeftFirst ts i t k u v
  in_order t k None None P = record { j = P.from + 0; children = first-before P 0 (omega arith); of_left = λ a e. none-some a e; of_right = λ b e. none-some b e }
  in_order t k (Some u) None P = record {
    j = P.from + 0;
    children = first-before P 0 (omega arith);
    of_left = λ a e. (P.from + 1, subst (λ (x : ℕ). Before ts i (P.from + 1) (tri x k t.p) (tri x t.q k)) (some-some u a e) (first-before P 1 (omega arith)));
    of_right = λ b e. none-some b e;
  }
  in_order t k None (Some v) P = record {
    j = P.from + 0;
    children = first-before P 0 (omega arith);
    of_left = λ a e. none-some a e;
    of_right = λ b e. (P.from + 1, subst (λ (x : ℕ). Before ts (P.from + 0) (P.from + 1) (tri x k t.r) (tri x t.p k)) (some-some v b e) (other-before P 0 1 (omega arith) (omega arith)));
  }
  in_order t k (Some u) (Some v) P = record {
    j = P.from + 0;
    children = first-before P 0 (omega arith);
    of_left = λ a e. (P.from + 1, subst (λ (x : ℕ). Before ts i (P.from + 1) (tri x k t.p) (tri x t.q k)) (some-some u a e) (first-before P 1 (omega arith)));
    of_right = λ b e. (P.from + 2, subst (λ (x : ℕ). Before ts (P.from + 0) (P.from + 2) (tri x k t.r) (tri x t.p k)) (some-some v b e) (other-before P 0 2 (omega arith) (omega arith)));
  }

-- "A LEFT CHILD SO ALWAYS STANDS BEFORE ITS BROTHER": of any mesh and any edges that are split, for every father whose refinement edge is.
pub left-stands-first : (m : Mesh) (s : List Edge) (i : ℕ) → i < length m.tris → (k : ℕ) →
    let t : Tri = row_of m.tris i in
    let n : ℕ = length m.nodes in
    number_of n s (base t) ≡ Some k → LeftFirst (split_at bisected m s).tris i t k (number_of n s (edge t.p t.q)) (number_of n s (edge t.r t.p))
left-stands-first m s i l k e =
    let t = row_of m.tris i in
    let n = length m.nodes in
    in_order t k (number_of n s (edge t.p t.q)) (number_of n s (edge t.r t.p))
    (subst (λ (o : Option ℕ). Placed (split_at bisected m s).tris i (bisected t o (number_of n s (edge t.p t.q)) (number_of n s (edge t.r t.p)))) e (parts-placed bisected m s i l))

-- In a lawful mesh a row stands once, so that the numbers of the two rows, whatever they are, are in this order.
pub left-row-below : (m : Mesh) → Lawful m → {i j : ℕ} {l r : Tri} → Before m.tris i j l r → (a b : ℕ) → a < length m.tris → b < length m.tris →
    row_of m.tris a ≡ l → row_of m.tris b ≡ r → a < b
left-row-below m law {i} {j} B a b la lb e f =
    let x : a ≡ i = same_row m law a i la (omega (arith, B.before, B.inside)) (e ∙ sym B.left-row) in
    let y : b ≡ j = same_row m law b j lb B.inside (f ∙ sym B.brother-row) in
    omega (arith, B.before)
