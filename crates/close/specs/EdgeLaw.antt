-- Rows of a table and their edges: where every directed edge occurs once, a row that has another's refinement edge is that row or the
-- one across. Assumes nothing.
use Rattle.std.specs.Prelude.{◌≡◌, refl, ◌⊎◌, true, ℕ, ◌<◌, min, max, eqb, length, Option, Some, None}
use Rattle.std.proofs.Common.{sym, ap, ◌∙◌, subst, inl, inr, arith, eqb-true, eq-eqb}
use mathlib.Core.List.{List, Memᴰ}
use Rattle.std.proofs.Math.Decide.{ℕ_discrete}
use Rattle.lists.specs.ListsLaw.{clash, and_both, and_left, and_right, any_at, any-row, All-at}
use Rattle.lists.specs.Search.{lowest, items}
use Rattle.lists.specs.SearchLaw.{lowest-below, lowest-true, lowest-nothing}
use Rattle.lists.specs.ByNumberLaw.{items-in}
use Rattle.meaning.specs.declared.Tri.{Tri}
use Rattle.meaning.specs.declared.Node.{Node}
use Rattle.meaning.specs.Mesh.{Edge, Arrow, edge, edges, base, arrow, arrows, same_arrow, holds_arrow, mesh}
use Rattle.meaning.specs.Lawful.{Lawful, Named}
use Rattle.meaning.specs.Tables.{row_at}
use Rattle.laws.specs.Edges.{edge-comm}
use Rattle.laws.specs.Pairs.{arrows-once, holder-item}
use Rattle.tables.specs.Arrow.{arrow_at}
use Rattle.close.specs.Drawn.{across_row}

-- ---- arrows and edges

arrow-is : (a b c d : ℕ) → same_arrow (arrow a b) (arrow c d) ≡ true → (a ≡ c) × (b ≡ d)
arrow-is a b c d e = (eqb-true a c (and_left (eqb a c) (eqb b d) e), eqb-true b d (and_right (eqb a c) (eqb b d) e))

arrow-refl : (a b : ℕ) → same_arrow (arrow a b) (arrow a b) ≡ true
arrow-refl a b = and_both (eq-eqb a a refl) (eq-eqb b b refl)

-- the three arrows of a row
pub data Side (w : Tri) : ℕ → ℕ → Type 0 where
  side-m : Side w w.q w.r
  side-u : Side w w.p w.q
  side-v : Side w w.r w.p

side-holds : (w : Tri) {a b : ℕ} → Side w a b → holds_arrow (arrow a b) w ≡ true
side-holds w side-m = any_at (same_arrow (arrow w.q w.r)) {l = arrows w} (arrow-refl w.q w.r) (Memᴰ.tail (Memᴰ.head refl))
side-holds w side-u = any_at (same_arrow (arrow w.p w.q)) {l = arrows w} (arrow-refl w.p w.q) (Memᴰ.head refl)
side-holds w side-v = any_at (same_arrow (arrow w.r w.p)) {l = arrows w} (arrow-refl w.r w.p) (Memᴰ.tail (Memᴰ.tail (Memᴰ.head refl)))

holds-side : (w : Tri) (a b : ℕ) → holds_arrow (arrow a b) w ≡ true → Side w a b
holds-side w a b e = go (any-row (same_arrow (arrow a b)) (arrows w) e)
  where
    is : (c d : ℕ) (x : Arrow) → x ≡ arrow c d → same_arrow (arrow a b) x ≡ true → Side w c d → Side w a b
    is c d x q t s =
        let p = arrow-is a b c d (subst (λ (y : Arrow). same_arrow (arrow a b) y ≡ true) q t) in
        subst (λ (n : ℕ). Side w n b) (sym p.0) (subst (λ (n : ℕ). Side w c n) (sym p.1) s)

    go : (x : Arrow) × Memᴰ x (arrows w) × (same_arrow (arrow a b) x ≡ true) → Side w a b
    go (x, Memᴰ.head q, t) = is w.p w.q x q t side-u
    go (x, Memᴰ.tail (Memᴰ.head q), t) = is w.q w.r x q t side-m
    go (x, Memᴰ.tail (Memᴰ.tail (Memᴰ.tail i)), t) = elim i [ ]
    go (x, Memᴰ.tail (Memᴰ.tail (Memᴰ.head q)), t) = is w.r w.p x q t side-v

pub side-edge : (w : Tri) {a b : ℕ} → Side w a b → Memᴰ (edge a b) (edges w)
side-edge w side-m = Memᴰ.head refl
side-edge w side-u = Memᴰ.tail (Memᴰ.head refl)
side-edge w side-v = Memᴰ.tail (Memᴰ.tail (Memᴰ.head refl))

pub edge-side : (w : Tri) (e : Edge) → Memᴰ e (edges w) → (a : ℕ) × (b : ℕ) × Side w a b × (e ≡ edge a b)
edge-side w e (Memᴰ.head q) = (w.q, w.r, side-m, q)
edge-side w e (Memᴰ.tail (Memᴰ.head q)) = (w.p, w.q, side-u, q)
edge-side w e (Memᴰ.tail (Memᴰ.tail (Memᴰ.tail i))) = elim i [ ]
edge-side w e (Memᴰ.tail (Memᴰ.tail (Memᴰ.head q))) = (w.r, w.p, side-v, q)

-- the ends of an edge, in one order or the other
pub edge-ends : (a b c d : ℕ) → edge a b ≡ edge c d → ((a ≡ c) × (b ≡ d)) ⊎ ((a ≡ d) × (b ≡ c))
edge-ends a b c d e = go (ap (λ (x : Edge). x.lo) e) (ap (λ (x : Edge). x.hi) e)
  where
    go : min a b ≡ min c d → max a b ≡ max c d → ((a ≡ c) × (b ≡ d)) ⊎ ((a ≡ d) × (b ≡ c))
    go p q = pick (ℕ_discrete a c)
      where
        pick : Dec (a ≡ c) → ((a ≡ c) × (b ≡ d)) ⊎ ((a ≡ d) × (b ≡ c))
        pick (yes z) = inl (z, omega arith)
        pick (no o) = inr (omega arith, omega arith)

-- ---- neighbours

-- no directed edge occurs twice, of the rows by number
abbrev pub OnceAt : List ℕ → ℕ → Type 0
OnceAt l t = (i j x y : ℕ) → i < t → j < t → arrow_at l x y i ≡ true → arrow_at l x y j ≡ true → i ≡ j

pub side-at : (l : List ℕ) (i : ℕ) {x y : ℕ} → Side (row_at l i) x y → arrow_at l x y i ≡ true
unfolding arrow_at
side-at l i s = side-holds (row_at l i) s

module _ (l : List ℕ) (t : ℕ) (once : OnceAt l t) where
  -- the row that holds x→y is the one that is found
  pub found-is : (i x y : ℕ) → i < t → Side (row_at l i) x y → lowest (arrow_at l x y) 0 t ≡ Some i
  found-is i x y h s = go (lowest (arrow_at l x y) 0 t) refl
    where
      go : (w : Option ℕ) → lowest (arrow_at l x y) 0 t ≡ w → w ≡ Some i
      go None e = clash (sym (side-at l i s) ∙ lowest-nothing (arrow_at l x y) t i e h)
      go (Some j) e = ap Some (once j i x y (lowest-below (arrow_at l x y) t j e) h (lowest-true (arrow_at l x y) t j e) (side-at l i s))

  pub found_side : (i x y : ℕ) → lowest (arrow_at l x y) 0 t ≡ Some i → (i < t) × Side (row_at l i) x y
  unfolding arrow_at
  found_side i x y e = (lowest-below (arrow_at l x y) t i e, holds-side (row_at l i) x y (lowest-true (arrow_at l x y) t i e))

  -- a row with an edge of row j is row j, or the one across that edge
  pub beside : (i j x y : ℕ) (e : Edge) → i < t → j < t → Memᴰ e (edges (row_at l i)) → Side (row_at l j) x y → e ≡ edge x y →
      (i ≡ j) ⊎ (lowest (arrow_at l y x) 0 t ≡ Some i)
  beside i j x y e h k m side q = go (edge-side (row_at l i) e m)
    where
      go : (a : ℕ) × (b : ℕ) × Side (row_at l i) a b × (e ≡ edge a b) → (i ≡ j) ⊎ (lowest (arrow_at l y x) 0 t ≡ Some i)
      go (a, b, s, f) = ends (edge-ends x y a b (sym q ∙ f))
        where
          ends : ((x ≡ a) × (y ≡ b)) ⊎ ((x ≡ b) × (y ≡ a)) → (i ≡ j) ⊎ (lowest (arrow_at l y x) 0 t ≡ Some i)
          ends (inl (c, d)) = inl (once i j a b h k (side-at l i s) (rw (← c, ← d) (side-at l j side)))
          ends (inr (c, d)) = inr (rw (c, d) (found-is i a b h s))

  -- across its refinement edge
  pub adjacent : (i j : ℕ) (e : Edge) → i < t → j < t → Memᴰ e (edges (row_at l i)) → base (row_at l j) ≡ e → (i ≡ j) ⊎ (across_row l t j ≡ Some i)
  unfolding across_row
  adjacent i j e h k m q = beside i j (row_at l j).q (row_at l j).r e h k m side-m (sym q)

  -- the row across an edge has that edge
  pub found-has : (i x y : ℕ) → lowest (arrow_at l y x) 0 t ≡ Some i → (i < t) × Memᴰ (edge x y) (edges (row_at l i))
  found-has i x y e =
      let r = found_side i y x e in
      (r.0, subst (λ (d : Edge). Memᴰ d (edges (row_at l i))) (edge-comm y x) (side-edge (row_at l i) r.1))

  pub across-has : (i j : ℕ) → across_row l t j ≡ Some i → (i < t) × Memᴰ (base (row_at l j)) (edges (row_at l i))
  unfolding across_row
  across-has i j e = found-has i (row_at l j).q (row_at l j).r e

-- ---- a lawful mesh, by number

module _ (ns : List Node) (l : List ℕ) (t : ℕ) (law : Lawful (mesh ns (items (row_at l) 0 t))) where
  pub lawful-once : OnceAt l t
  unfolding arrow_at
  lawful-once i j x y = holder-item (arrow x y) (row_at l) t (arrows-once (mesh ns (items (row_at l) 0 t)) law) i j

  pub lawful-named : (i : ℕ) → i < t → Named (length ns) (row_at l i)
  lawful-named i h = All-at law.named (items-in (row_at l) t i h)
