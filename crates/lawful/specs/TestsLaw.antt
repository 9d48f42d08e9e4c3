-- What the tests tell, in the form of needs. Assumes nothing.
use Rattle.std.specs.Prelude.{◌≡◌, refl, false, List, ℕ, ◌+◌, ◌*◌, ◌≤◌, ◌<◌, ℤ, length, take, set, None}
use Rattle.std.proofs.Common.{ap, ◌∙◌, arith, length-set}
use Rattle.lists.specs.Search.{lowest}
use Rattle.lists.specs.SearchLaw.{lowest-nothing}
use Rattle.meaning.specs.declared.Place.{Place}
use Rattle.meaning.specs.declared.Tri.{Tri}
use Rattle.meaning.specs.Lawful.{InRange, Named}
use Rattle.meaning.specs.Tables.{node_at, place_at, row_at}
use Rattle.laws.specs.Faults.{node-exact, named-yes}
use Rattle.neighbours.specs.Sized.{Corners}
use Rattle.lawful.specs.Tests.{outside_at, misnamed_at, mark_step}

-- ---- 4 said no: three nodes below n, all different

pub named-row : (w : Tri) (l : List ℕ) (n i : ℕ) → w ≡ row_at l i → misnamed_at l n i ≡ false → Named n w
unfolding misnamed_at
named-row w l n i e h = named-yes n w (rw e h)

pub not-misnamed : (l : List ℕ) (n t i : ℕ) → lowest (misnamed_at l n) 0 t ≡ None → i < t → misnamed_at l n i ≡ false
not-misnamed l n t i e h = lowest-nothing (misnamed_at l n) t i e h

pub corners-at : (l : List ℕ) (nc n t i : ℕ) → n ≤ nc → lowest (misnamed_at l n) 0 t ≡ None → i < t → Corners nc (row_at l i)
corners-at l nc n t i b e h =
    let k = named-row (row_at l i) l n i refl (not-misnamed l n t i e h) in
    record { p-in = omega arith; q-in = omega arith; r-in = omega arith }

-- ---- 3 said no

place-near : (nodes : List ℤ) (n k : ℕ) → lowest (outside_at nodes) 0 n ≡ None → k < n → InRange (place_at nodes k)
unfolding outside_at
place-near nodes n k e h = ((node-exact (node_at nodes k)).0 (lowest-nothing (outside_at nodes) n k e h)).place_in

-- ---- a corner of row i can be read, is in range, and can be marked

module _ (w : Tri) (l : List ℕ) (n i : ℕ) (e : w ≡ row_at l i) (h : misnamed_at l n i ≡ false) where
  pub fits-p : (len : ℕ) → 4 * n ≤ len → 4 * w.p + 4 ≤ len
  fits-p len b = omega (arith, named-row w l n i e h)

  pub fits-q : (len : ℕ) → 4 * n ≤ len → 4 * w.q + 4 ≤ len
  fits-q len b = omega (arith, named-row w l n i e h)

  pub fits-r : (len : ℕ) → 4 * n ≤ len → 4 * w.r + 4 ≤ len
  fits-r len b = omega (arith, named-row w l n i e h)

  module _ (nodes : List ℤ) (a : Place) (f : lowest (outside_at nodes) 0 n ≡ None) where
    pub range-p : a ≡ place_at nodes w.p → InRange a
    range-p g = rw g (place-near nodes n w.p f (named-row w l n i e h).p-below)

    pub range-q : a ≡ place_at nodes w.q → InRange a
    range-q g = rw g (place-near nodes n w.q f (named-row w l n i e h).q-below)

    pub range-r : a ≡ place_at nodes w.r → InRange a
    range-r g = rw g (place-near nodes n w.r f (named-row w l n i e h).r-below)

  pub mark-p : (s : List ℕ) → n ≤ length s → w.p < length s
  mark-p s b = omega (arith, named-row w l n i e h)

  pub mark-q : (s : List ℕ) → n ≤ length s → w.q < length s
  mark-q s b = omega (arith, named-row w l n i e h)

  pub mark-r : (s s₁ s₂ : List ℕ) → n ≤ length s → s₁ ≡ set s w.p 1 → s₂ ≡ set s₁ w.q 1 → w.r < length s₂
  mark-r s s₁ s₂ b f g =
      let z : length s₂ ≡ length s = ap length g ∙ length-set s₁ w.q 1 ∙ ap length f ∙ length-set s w.p 1 in
      omega (arith, named-row w l n i e h)

pub ruleset corners = (fits-p, fits-q, fits-r, range-p, range-q, range-r)

pub marked_row : (w : Tri) (l s s₁ s₂ s₃ : List ℕ) (i : ℕ) → w ≡ row_at l i → s₁ ≡ set s w.p 1 → s₂ ≡ set s₁ w.q 1 → s₃ ≡ set s₂ w.r 1 → s₃ ≡ mark_step l i s
unfolding mark_step
marked_row w l s s₁ s₂ s₃ i e a b c = rw (← e, ← a, ← b) c

-- ---- 5: the notes while rows join the index

pub notes-kept : (k : ℕ) (s₀ s s' : List ℕ) → take k s' ≡ take k s → take k s ≡ take k s₀ → take k s' ≡ take k s₀
notes-kept k s₀ s s' e f = e ∙ f
