-- 10 of a mesh that draws none of 3 to 7: of all rows, only the one that holds r→q can clash with a row whose refinement edge is q–r.
-- Assumes nothing.
use Rattle.std.specs.Prelude.{◌≡◌, Bool, ◌&&◌, ◌||◌, List, ℕ, ◌<◌, eqb, ℤ, Option, Some, None}
use Rattle.std.proofs.Math.Path.{refl, sym}
use Rattle.std.proofs.Common.{subst, ◌∙◌, eq-eqb, ne_eqb}
use Rattle.std.proofs.Math.Bool.{true, false, not}
use Rattle.lists.specs.Lists.{any}
use Rattle.lists.specs.ListsLaw.{clash, or_left, or_right}
use Rattle.lists.specs.PartsLaw.{not_so}
use Rattle.lists.specs.Search.{lowest, items}
use Rattle.lists.specs.SearchLaw.{lowest-where, lowest-nothing, lowest-below, lowest-true, any-no, any-one}
use Rattle.meaning.specs.declared.Tri.{Tri}
use Rattle.meaning.specs.Mesh.{arrow, base, same_arrow, same_edge, holds_arrow, holds_edge}
use Rattle.meaning.specs.Lawful.{Named, Lawful, clashes, fault_of, refusal, first_clash}
use Rattle.meaning.specs.Tables.{row_at, given, mesh_of}
use Rattle.laws.specs.Edges.{same_edge-refl, arrow-eq, eq-arrow}
use Rattle.laws.specs.EdgeArrow.{same_edge-ends, edge-arrows}
use Rattle.laws.specs.Lawful.{refusal-lawful}
use Rattle.laws.specs.Meshes.{mesh_at, mesh-is, row_named, holder-at}
use Rattle.tables.specs.Arrow.{arrow_at}
use Rattle.checking.specs.Clash.{clash_with, clash_found, clash_at}

-- a row does not hold its own q→r the other way round
not_back : (n : ℕ) (u : Tri) → Named n u → holds_arrow (arrow u.r u.q) u ≡ false
not_back n u h =
    rw (ne_eqb u.r u.p h.r≢p, ne_eqb u.r u.q (λ e. h.q≢r (sym e)), eq-eqb u.r u.r refl, ne_eqb u.q u.p (λ e. h.p≢q (sym e)))

-- a row that holds r→q of w: its refinement edge is q–r just where it is r→q
base_back : (w u : Tri) (n : ℕ) → Named n u → holds_arrow (arrow w.r w.q) u ≡ true → same_edge (base w) (base u) ≡ eqb w.r u.q && eqb w.q u.r
base_back w u n k e = same_edge-ends w.q w.r u.q u.r ∙ rw (not_so (same_arrow (arrow w.q w.r) (arrow u.q u.r)) never)
  where
    never : same_arrow (arrow w.q w.r) (arrow u.q u.r) ≡ true → ⊥
    never t = let a = arrow-eq (arrow w.q w.r) u.q u.r t in clash (sym e ∙ rw (a.0, a.1) (not_back n u k))

-- ---- rows by number

module _ (nodes : List ℤ) (l : List ℕ) (n t : ℕ) (law : Lawful (mesh_at nodes l n t)) where
  -- what clashes with row i
  clashing : ℕ → Tri → Bool
  clashing i u = holds_edge (base (row_at l i)) u && not (same_edge (base (row_at l i)) (base u))

  own-base : (i : ℕ) → holds_arrow (arrow (row_at l i).q (row_at l i).r) (row_at l i) ≡ true
  own-base i =
      let w = row_at l i in
      or_right (same_arrow (arrow w.q w.r) (arrow w.p w.q)) (or_left _ (eq-arrow (arrow w.q w.r) w.q w.r refl refl))

  -- only a row that holds r→q
  no_other : (i k : ℕ) → i < t → k < t → arrow_at l (row_at l i).r (row_at l i).q k ≡ false → clashing i (row_at l k) ≡ false
  unfolding clashing arrow_at
  no_other i k h u e =
      rw (edge-arrows (row_at l i).q (row_at l i).r (row_at l k)) (go (holds_arrow (arrow (row_at l i).q (row_at l i).r) (row_at l k)) refl)
    where
      go : (b : Bool) → holds_arrow (arrow (row_at l i).q (row_at l i).r) (row_at l k) ≡ b →
          (b || holds_arrow (arrow (row_at l i).r (row_at l i).q) (row_at l k)) && not (same_edge (base (row_at l i)) (base (row_at l k))) ≡ false
      go true p =
          let q : k ≡ i = holder-at nodes l n t law (arrow (row_at l i).q (row_at l i).r) k i u h p (own-base i) in
          rw (q, same_edge-refl (base (row_at l i)))
      go false p = rw e

  one-other : (i j : ℕ) → i < t → j < t → arrow_at l (row_at l i).r (row_at l i).q j ≡ true → clash_with (row_at l i) (row_at l j) ≡ clashing i (row_at l j)
  unfolding clashing clash_with arrow_at
  one-other i j h u e =
      let a : holds_edge (base (row_at l i)) (row_at l j) ≡ true =
      edge-arrows (row_at l i).q (row_at l i).r (row_at l j) ∙ or_right (holds_arrow (arrow (row_at l i).q (row_at l i).r) (row_at l j)) e in
      rw (a, base_back (row_at l i) (row_at l j) n (row_named nodes l n t law j u) e)

  clash-row : (i : ℕ) → i < t → clash_at l t i ≡ clashes (items (row_at l) 0 t) (row_at l i)
  unfolding clash_at clashing arrow_at
  clash-row i h = go (lowest (arrow_at l (row_at l i).r (row_at l i).q) 0 t) refl
    where
      go : (f : Option ℕ) → lowest (arrow_at l (row_at l i).r (row_at l i).q) 0 t ≡ f → clash_found l (row_at l i) f ≡ any (clashing i) (items (row_at l) 0 t)
      go None e =
          sym (any-no (clashing i) (row_at l) t (λ k u. no_other i k h u (lowest-nothing (arrow_at l (row_at l i).r (row_at l i).q) t k e u)))
      go (Some j) e =
          let b = lowest-below (arrow_at l (row_at l i).r (row_at l i).q) t j e in
          let y = lowest-true (arrow_at l (row_at l i).r (row_at l i).q) t j e in
          one-other i j h b y
          ∙ sym (any-one (clashing i) (row_at l) t j b
          (λ k u o. no_other i k h u (not_so (arrow_at l (row_at l i).r (row_at l i).q k) (λ f. o (holder-at nodes l n t law (arrow (row_at l i).r (row_at l i).q) k j u b f y)))))

-- ---- number 0

pub clash-is : (nodes : List ℤ) (l s : List ℕ) (n t : ℕ) → (fault_of (mesh_of (given nodes l s n t))).number ≡ 0 → lowest (clash_at l t) 0 t ≡ first_clash (mesh_of (given nodes l s n t))
unfolding first_clash mesh_of refusal
clash-is nodes l s n t z =
    lowest-where (clashes (items (row_at l) 0 t)) (row_at l) (clash_at l t) t
    (clash-row nodes l n t (subst Lawful (mesh-is nodes l n t s) (refusal-lawful (mesh_of (given nodes l s n t)) z)))
