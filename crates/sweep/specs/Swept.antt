-- W7: rows that stand in order, compared where their boxes meet, give the gravest of any two. Assumes nothing.
use Rattle.std.specs.Prelude.{Bool, not, List, ◌≢◌, ◌≡◌, ℕ, ◌+◌, ◌≤◌, ◌<◌}
use Rattle.std.proofs.Math.Bool.{true, false}
use Rattle.std.proofs.Math.Path.{refl, ap, ap₂}
use Rattle.std.proofs.Common.{sym, ◌∙◌, le-leb, ne_eqb}
use native.Mathlib.Omega.{arith}
use Rattle.std.proofs.Math.Decide.{dec_lt, ℕ_discrete}
use Rattle.std.proofs.lemmas.Bool.{eqb-false}
use Rattle.std.proofs.Math.Dec.{eqb}
use Rattle.lists.specs.Lists.{cases}
use Rattle.lists.specs.ListsLaw.{and_both}
use Rattle.meaning.specs.declared.Place.{Place}
use Rattle.meaning.specs.Tables.{row_at}
use Rattle.pairs.specs.Pair.{grave, grave_at}
use Rattle.pairs.specs.Turned.{grave-sym}
use Rattle.columns.specs.Axis.{is_y}
use Rattle.columns.specs.declared.Scale.{Scale}
use Rattle.columns.specs.declared.Boxed.{Boxed}
use Rattle.columns.specs.Columns.{low, high, column, home, rank, box_at, box_of, Ordered}
use Rattle.columns.specs.Rank.{rank_most, rank-apart, column-below}
use Rattle.columns.specs.Ends.{end-most, end-past}
use Rattle.sweep.specs.Severity.{SomeTwo, none, two}
use Rattle.sweep.specs.Boxes.{Solid, boxes-clear}
use Rattle.sweep.specs.Highest.{HighestIs, of_none, of, highest-most, highest-is}
use Rattle.sweep.specs.Sweep.{meeting, compared, visited, reach, swept_place, swept}

module _ (s : Scale) (P : ℕ → Place) (rows scratch : List ℕ) (t : ℕ) (o : Ordered s P rows scratch t) (some : 0 < s.count) where
  pub reach-most : (i : ℕ) → reach s P rows scratch i ≤ t
  unfolding reach
  reach-most i = let v = high (is_y s.axis) P (row_at rows i) in end-most s P rows scratch t o some (column s v) (column-below s v some)

module _ (s : Scale) (P : ℕ → Place) (rows scratch : List ℕ) (t : ℕ) (o : Ordered s P rows scratch t) (some : 0 < s.count) where
  abbrev box : ℕ → Boxed
  box = box_at scratch s.count

  abbrev h : ℕ → ℕ
  h = home s P rows

  abbrev at : ℕ → ℕ
  at = rank h t

  abbrev grave_of : ℕ → ℕ → ℕ
  grave_of i j = grave P (row_at rows i) (row_at rows j)

  -- ---- no two rows are graver

  module _ (wide : 0 < s.width) (solid : (i : ℕ) → i < t → Solid P (row_at rows i)) where
    -- the boxes of rows that are grave meet, along both axes
    reaches : (y : Bool) (i j : ℕ) → i < t → j < t → 0 < grave_of i j → low y P (row_at rows j) ≤ high y P (row_at rows i)
    reaches y i j a b g = go (dec_lt (high y P (row_at rows i)) (low y P (row_at rows j)))
      where
        go : Dec (high y P (row_at rows i) < low y P (row_at rows j)) → low y P (row_at rows j) ≤ high y P (row_at rows i)
        go (yes l) = let z = boxes-clear y P (row_at rows i) (row_at rows j) (solid i a) (solid j b) l in absurd (omega arith)
        go (no l) = omega arith

    back : (i j : ℕ) → 0 < grave_of i j → 0 < grave_of j i
    back i j g = rw (grave-sym P (row_at rows j) (row_at rows i)) g

    -- row j begins in a column that row i reaches
    in_reach : (i j : ℕ) → i < t → j < t → 0 < grave_of i j → at j < reach s P rows scratch i
    unfolding reach
    in_reach i j a b g = end-past s P rows scratch t o some wide j (high (is_y s.axis) P (row_at rows i)) b (reaches (is_y s.axis) i j a b g)

    visit-is : (i j : ℕ) → i < t → j < t → i ≢ j → 0 < grave_of i j → visited P rows scratch s.count (box (at i)) (at j) ≡ grave_of i j
    unfolding compared box_of grave_at
    visit-is i j a b n g =
        ap₂ (compared P rows) (o.standing i a) (o.standing j b)
        ∙ ap (λ c. cases c (grave_at P rows i j) 0) meets ∙ different
      where
        meets : meeting (box_of s P rows i) (box_of s P rows j) ≡ true
        meets = and_both (le-leb _ _ (reaches (not (is_y s.axis)) i j a b g)) (le-leb _ _ (reaches (not (is_y s.axis)) j i b a (back i j g)))

        different : grave_at P rows i j ≡ grave_of i j
        different = rw (ne_eqb i j n)

    -- the one that stands first meets the other
    ordered-most : (i j : ℕ) → i < t → j < t → i ≢ j → at i < at j → 0 < grave_of i j → grave_of i j ≤ swept s P rows scratch t
    unfolding swept swept_place box_of
    ordered-most i j a b n l g =
        let v = visit-is i j a b n g in
        let r : reach s P rows scratch (box (at i)).row ≡ reach s P rows scratch i = ap (λ (c : Boxed). reach s P rows scratch c.row) (o.standing i a) in
        let x = highest-most (visited P rows scratch s.count (box (at i))) (at i + 1) (reach s P rows scratch (box (at i)).row) (at j) (omega arith) (omega (arith, in_reach i j a b g)) in
        let y = highest-most (swept_place s P rows scratch) 0 t (at i) (omega arith) (rank_most h t i a) in
        omega arith

    pub swept-most : (i j : ℕ) → i < t → j < t → i ≢ j → grave_of i j ≤ swept s P rows scratch t
    swept-most i j a b n = go (dec_lt 0 (grave_of i j)) (dec_lt (at i) (at j)) (ℕ_discrete (at i) (at j))
      where
        go : Dec (0 < grave_of i j) → Dec (at i < at j) → Dec (at i ≡ at j) → grave_of i j ≤ swept s P rows scratch t
        go (no g) d e = omega arith
        go (yes g) (yes d) e = ordered-most i j a b n d g
        go (yes g) (no d) (yes e) = absurd (n (rank-apart h t i j a b e))
        go (yes g) (no d) (no e) = rw (grave-sym P (row_at rows i) (row_at rows j)) (ordered-most j i b a (λ q. n (sym q)) (omega arith) (back i j g))

  -- ---- some two rows are as grave

  visit-met : (p q r : ℕ) → p < t → q < t → visited P rows scratch s.count (box p) q ≡ r → SomeTwo grave_of t r
  unfolding compared grave_at
  visit-met p q r a b e = go (meeting (box p) (box q)) (eqb (box p).row (box q).row) refl e
    where
      go : (c d : Bool) → eqb (box p).row (box q).row ≡ d → cases c (cases d 0 (grave_of (box p).row (box q).row)) 0 ≡ r → SomeTwo grave_of t r
      go false d n e = none (sym e)
      go true true n e = none (sym e)
      go true false n e = two (box p).row (box q).row (o.naming p a) (o.naming q b) (eqb-false (box p).row (box q).row n) e

  place-met : (p r : ℕ) → p < t → swept_place s P rows scratch p ≡ r → SomeTwo grave_of t r
  unfolding swept_place
  place-met p r a e = go (highest-is (visited P rows scratch s.count (box p)) (p + 1) (reach s P rows scratch (box p).row)) e
    where
      go : {w : ℕ} → HighestIs (visited P rows scratch s.count (box p)) (p + 1) (reach s P rows scratch (box p).row) w → w ≡ r → SomeTwo grave_of t r
      go of_none e = none (sym e)
      go (of q l u) e = let m = reach-most s P rows scratch t o some (box p).row in visit-met p q r a (omega arith) e

  pub swept-met : SomeTwo grave_of t (swept s P rows scratch t)
  unfolding swept
  swept-met = go (highest-is (swept_place s P rows scratch) 0 t)
    where
      go : {w : ℕ} → HighestIs (swept_place s P rows scratch) 0 t w → SomeTwo grave_of t w
      go of_none = none refl
      go (of p l u) = place-met p (swept_place s P rows scratch p) u refl
