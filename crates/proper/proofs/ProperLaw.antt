-- The tests of 11 and 12 are exact: they find nothing exactly if a lawful mesh is proper, and else the lowest node or row at fault. Assumes nothing.
use Rattle.std.specs.Prelude.{true, false, not, ◌⊎◌, ◌↔◌, ◌≡◌, ℕ, ◌<◌, pos, ◌<ℤ◌, length, take, Some}
use mathlib.Core.List.{Memᴰ}
use Rattle.std.proofs.Common.{inl, inr, sym, subst, ap, arith}
use Rattle.std.proofs.lemmas.Bool.{not-true}
use Rattle.std.specs.Int.Signed.{lt_z}
use Rattle.lists.specs.Lists.{any, up_to}
use Rattle.lists.specs.ListsLaw.{and_both, and_left, and_right, All-at, All-of, All-get_or}
use Rattle.lists.specs.MembersLaw.{up_to-below, up_to-in}
use Rattle.whole.specs.Tests.{lt_z-true, lt-lt_z}
use Rattle.meaning.specs.declared.Place.{Place}
use Rattle.meaning.specs.declared.Tri.{Tri}
use Rattle.meaning.specs.Mesh.{Mesh, Arrow, tri, arrows, at, turn, twice_area}
use Rattle.meaning.specs.Lawful.{Lawful, First, row_of}
use Rattle.meaning.specs.Good.{same_z}
use Rattle.meaning.specs.Proper.{area, Share, facing, StrictlyInside, shape, Proper, Crowded, at-one-place, inside-edge, Overlaps, with-lower, same_place, strictly_inside, crowded, apart, overlaps, first_crowded, first_overlap, uncrowded, disjoint}
use Rattle.laws.specs.Exact.{either-exact, any-exact}
use Rattle.laws.specs.Faults.{lower-row, row-lower}
use Rattle.laws.specs.Searched.{lowest-exact, none-exact, some-exact}
use Rattle.laws.specs.Star.{same_z-eq, eq-same_z}
use Rattle.proper.specs.Tested.{share-exact}

-- ---- places

pub place-exact : (A B : Place) → (same_place A B ≡ true) ↔ (A ≡ B)
place-exact A B = (to, λ e. and_both (eq-same_z A.x B.x (ap (λ P. P.x) e)) (eq-same_z A.y B.y (ap (λ P. P.y) e)))
  where
    to : same_place A B ≡ true → A ≡ B
    to t =
        let a = same_z-eq A.x B.x (and_left (same_z A.x B.x) (same_z A.y B.y) t) in
        let b = same_z-eq A.y B.y (and_right (same_z A.x B.x) (same_z A.y B.y) t) in
        λ i. record { x = a i; y = b i }

pub inside-exact : (A B P : Place) → (strictly_inside A B P ≡ true) ↔ StrictlyInside A B P
inside-exact A B P = (to, λ h. and_both (eq-same_z (turn A B P) (pos 0) h.on_line) (lt-lt_z (facing A B P) (pos 0) h.between))
  where
    to : strictly_inside A B P ≡ true → StrictlyInside A B P
    to t = record {
      on_line = same_z-eq (turn A B P) (pos 0) (and_left (same_z (turn A B P) (pos 0)) (lt_z (facing A B P) (pos 0)) t);
      between = lt_z-true (facing A B P) (pos 0) (and_right (same_z (turn A B P) (pos 0)) (lt_z (facing A B P) (pos 0)) t);
    }

-- ---- nodes and rows at fault

-- THE TEST OF 11 SAYS YES EXACTLY OF A NODE AT FAULT
pub crowded-exact : (m : Mesh) (k : ℕ) → (crowded m k ≡ true) ↔ Crowded m k
crowded-exact m k =
    let twins = any-exact (λ j. same_place (at m j) (at m k)) (up_to k) (λ j i. place-exact (at m j) (at m k)) in
    let within = any-exact (λ t. any (λ e. strictly_inside (at m e.from) (at m e.to) (at m k)) (arrows t)) m.tris
    (λ t i. any-exact (λ e. strictly_inside (at m e.from) (at m e.to) (at m k)) (arrows t) (λ e j. inside-exact (at m e.from) (at m e.to) (at m k))) in
    let h = either-exact _ _ twins within in
    (λ e. to (h.0 e), λ c. h.1 (from c))
  where
    Twin : Type 0
    Twin = (j : ℕ) × Memᴰ j (up_to k) × (at m j ≡ at m k)

    Within : Type 0
    Within = (t : Tri) × Memᴰ t m.tris × ((e : Arrow) × Memᴰ e (arrows t) × StrictlyInside (at m e.from) (at m e.to) (at m k))

    to : Twin ⊎ Within → Crowded m k
    to (inl h) = at-one-place h.0 (All-at (up_to-below k) h.1) h.2
    to (inr h) = inside-edge h.0 h.1 h.2.0 h.2.1 h.2.2

    from : Crowded m k → Twin ⊎ Within
    from (at-one-place j l e) = inl (j, up_to-in k l, e)
    from (inside-edge t i e j h) = inr (t, i, (e, j, h))

-- THE TEST OF 12 SAYS YES EXACTLY OF A ROW AT FAULT
pub overlaps-exact : (m : Mesh) → Lawful m → (i : ℕ) → i < length m.tris → (overlaps m i ≡ true) ↔ Overlaps m i
unfolding twice_area
overlaps-exact m law i l = let h = any-exact (λ t. not (apart (shape m t) (shape m row))) (take i m.tris) one in (λ e. to (h.0 e), λ o. h.1 (from o))
  where
    row : Tri
    row = row_of m.tris i

    positive : (j : ℕ) → j < length m.tris → pos 0 <ℤ area (shape m (row_of m.tris j))
    positive j h = All-get_or law.positive j (tri 0 0 0) h

    one : (t : Tri) → Memᴰ t (take i m.tris) → (not (apart (shape m t) (shape m row)) ≡ true) ↔ Share (shape m t) (shape m row)
    one t k =
        let r = row-lower m.tris i k (omega arith) in
        let h = share-exact (shape m t) (shape m row) (subst (λ u. pos 0 <ℤ area (shape m u)) r.2 (positive r.0 (omega (arith, r.1)))) (positive i l) in
        (λ e. h.0 (not-true _ e), λ s. ap not (h.1 s))

    to : (t : Tri) × Memᴰ t (take i m.tris) × Share (shape m t) (shape m row) → Overlaps m i
    to h = let r = row-lower m.tris i h.1 (omega arith) in with-lower r.0 r.1 (subst (λ u. Share (shape m u) (shape m row)) (sym r.2) h.2)

    from : Overlaps m i → (t : Tri) × Memᴰ t (take i m.tris) × Share (shape m t) (shape m row)
    from (with-lower j h s) = (row_of m.tris j, lower-row m.tris i j h (omega arith), s)

-- ---- the lowest, and whether there is any

module _ (m : Mesh) where
  -- 11: THE LOWEST NODE AT FAULT
  pub first_crowded-is : (k : ℕ) → (first_crowded m ≡ Some k) ↔ First (length m.nodes) (Crowded m) (λ j. ¬ Crowded m j) k
  unfolding first_crowded
  first_crowded-is = lowest-exact (crowded m) (length m.nodes) (λ k h. crowded-exact m k)

  pub uncrowded-exact : (uncrowded m ≡ true) ↔ ((k : ℕ) → k < length m.nodes → ¬ Crowded m k)
  unfolding uncrowded first_crowded
  uncrowded-exact = none-exact (crowded m) (length m.nodes) (λ k h. crowded-exact m k)

  pub crowded-somewhere : (uncrowded m ≡ false) ↔ ((k : ℕ) × (k < length m.nodes) × Crowded m k)
  unfolding uncrowded first_crowded
  crowded-somewhere = some-exact (crowded m) (length m.nodes) (λ k h. crowded-exact m k)

  module _ (law : Lawful m) where
    -- 12: THE LOWEST ROW AT FAULT
    pub first_overlap-is : (i : ℕ) → (first_overlap m ≡ Some i) ↔ First (length m.tris) (Overlaps m) (λ j. ¬ Overlaps m j) i
    unfolding first_overlap
    first_overlap-is = lowest-exact (overlaps m) (length m.tris) (overlaps-exact m law)

    pub disjoint-exact : (disjoint m ≡ true) ↔ ((i : ℕ) → i < length m.tris → ¬ Overlaps m i)
    unfolding disjoint first_overlap
    disjoint-exact = none-exact (overlaps m) (length m.tris) (overlaps-exact m law)

    pub overlaps-somewhere : (disjoint m ≡ false) ↔ ((i : ℕ) × (i < length m.tris) × Overlaps m i)
    unfolding disjoint first_overlap
    overlaps-somewhere = some-exact (overlaps m) (length m.tris) (overlaps-exact m law)

  -- ---- a proper mesh has none

  pub none-proper : ((k : ℕ) → k < length m.nodes → ¬ Crowded m k) → ((i : ℕ) → i < length m.tris → ¬ Overlaps m i) → Proper m
  none-proper c o = record {
    places-differ = λ j k l h e. c k h (at-one-place j l e);
    none_inside = λ k h. All-of m.tris (λ t i. All-of (arrows t) (λ e j s. c k h (inside-edge t i e j s)));
    none-shared = λ i j l h s. o j h (with-lower i l s);
  }

  pub not-crowded : Proper m → (k : ℕ) → k < length m.nodes → ¬ Crowded m k
  not-crowded P k h (at-one-place j l e) = P.places-differ j k l h e
  not-crowded P k h (inside-edge t i e j s) = All-at (All-at (P.none_inside k h) i) j s

  pub not-overlapping : Proper m → (i : ℕ) → i < length m.tris → ¬ Overlaps m i
  not-overlapping P i h (with-lower j l s) = P.none-shared j i l h s

  -- A LAWFUL MESH IS PROPER EXACTLY IF BOTH TESTS FIND NOTHING
  pub proper-exact : Lawful m → Proper m ↔ ((uncrowded m ≡ true) × (disjoint m ≡ true))
  proper-exact law = (
    λ P. (uncrowded-exact.1 (not-crowded P), (disjoint-exact law).1 (not-overlapping P)),
    λ h. none-proper (uncrowded-exact.0 h.0) ((disjoint-exact law).0 h.1),
  )
