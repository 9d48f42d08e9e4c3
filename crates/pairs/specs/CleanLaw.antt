-- A side of a row is clean for another row if each corner of that is clear of it. Two rows with areas above 0, one of which has a side that is
-- clean for the other, have nothing against each other. Assumes nothing.
use Rattle.std.proofs.Math.Bool.{Bool, true, false}
use Rattle.std.specs.Prelude.{◌&&◌, ◌||◌, ◌≡◌, pos, ◌<ℤ◌}
use Rattle.std.proofs.Math.Path.{refl}
use Rattle.std.proofs.Common.{sym, ◌∙◌, arith, eqb-true}
use Prim.Native.Nat.{ℕ}
use Rattle.std.proofs.Math.Dec.{eqb}
use Rattle.std.specs.Int.Signed.{lt_z}
use Rattle.whole.specs.Diff.{onℤ}
use Rattle.whole.specs.Tests.{lt_z-true, le-le_z}
use Rattle.lists.specs.Lists.{any}
use Rattle.lists.specs.ListsLaw.{and_left, and_right}
use Rattle.lists.specs.PartsLaw.{not_so}
use Rattle.meaning.specs.declared.Place.{Place}
use Rattle.meaning.specs.declared.Tri.{Tri}
use Rattle.meaning.specs.Mesh.{arrow, turn}
use Rattle.meaning.specs.Proper.{none_left, parted_by, apart}
use Rattle.laws.specs.Area.{turn-cycle}
use Rattle.laws.specs.Weights.{turned}
use Rattle.proper.specs.OnLine.{len-above}
use Rattle.pairs.specs.OnSide.{On, on-is}
use Rattle.pairs.specs.Clear.{Clear, one, other, right, Above, off-ab, off-br, off-ra, not-above, off-a, off-b, off-r}
use Rattle.pairs.specs.Pair.{shape_by, corners, on_side, touches, grave}
use Rattle.pairs.specs.Seen.{corner_by, seen_by, is_end, right_of, is_clear, all_clear, clean}
use Rattle.pairs.specs.Turned.{grave-sym, grave-turned}

module _ (P : ℕ → Place) where
  -- ---- two rows, the side p–q of the first clean for the second

  none : {a b c : Bool} → a ≡ false → b ≡ false → c ≡ false → a || (b || (c || false)) ≡ false
  none p q r = rw (p, q, r)

  -- no node of three is on the side
  side-off : (x y : ℕ) (u : Tri) → (On P x y u.p → ⊥) → (On P x y u.q → ⊥) → (On P x y u.r → ⊥) → any (on_side P (arrow x y)) (corners u) ≡ false
  side-off x y u f g h = none (not_so _ (λ e. f (on-is P x y u.p e))) (not_so _ (λ e. g (on-is P x y u.q e))) (not_so _ (λ e. h (on-is P x y u.r e)))

  record AllClear (t u : Tri) : Type 0 where
    clear-p : Clear P (P t.p) (P t.q) t.p t.q u.p
    clear-q : Clear P (P t.p) (P t.q) t.p t.q u.q
    clear-r : Clear P (P t.p) (P t.q) t.p t.q u.r

  module _ (t u : Tri) (at : Above P t) (au : Above P u) (c : AllClear t u) where
    side-of-t : (x y : ℕ) → ((k : ℕ) → Clear P (P t.p) (P t.q) t.p t.q k → On P x y k → ⊥) → any (on_side P (arrow x y)) (corners u) ≡ false
    side-of-t x y off = side-off x y u (off u.p c.clear-p) (off u.q c.clear-q) (off u.r c.clear-r)

    none-on-t : touches P t u ≡ false
    unfolding touches
    none-on-t =
        none (side-of-t t.p t.q (off-ab P t.p t.q t.r at)) (side-of-t t.q t.r (off-br P t.p t.q t.r at))
        (side-of-t t.r t.p (off-ra P t.p t.q t.r at))

    side-of-u : (x y z : ℕ) → pos 0 <ℤ turn (P x) (P y) (P z) → Clear P (P t.p) (P t.q) t.p t.q x → Clear P (P t.p) (P t.q) t.p t.q y → any (on_side P (arrow x y)) (corners t) ≡ false
    side-of-u x y z h cx cy =
        let far = len-above (P x) (P y) (P z) h in
        side-off x y t (off-a P t.p t.q t.r at x y cx cy far) (off-b P t.p t.q t.r at x y cx cy far) (off-r P t.p t.q t.r at x y cx cy far)

    none-on-u : touches P u t ≡ false
    unfolding touches
    none-on-u =
        let e = turn-cycle (P u.p) (P u.q) (P u.r) in
        let f = turn-cycle (P u.q) (P u.r) (P u.p) in
        none (side-of-u u.p u.q u.r au c.clear-p c.clear-q) (side-of-u u.q u.r u.p (omega (arith, onℤ)) c.clear-q c.clear-r)
        (side-of-u u.r u.p u.q (omega (arith, onℤ)) c.clear-r c.clear-p)

    parted : parted_by (shape_by P t) (shape_by P u) ≡ true
    unfolding parted_by none_left
    parted =
        let low = not-above P t.p t.q t.r at in
        rw (le-le_z _ _ (low u.p c.clear-p), le-le_z _ _ (low u.q c.clear-q), le-le_z _ _ (low u.r c.clear-r))

    first-clean : grave P t u ≡ 0
    unfolding grave apart
    first-clean = rw (none-on-t, none-on-u, parted)

  above-turned : (t : Tri) → Above P t → Above P (turned t)
  above-turned t h = omega (arith, onℤ, turn-cycle (P t.p) (P t.q) (P t.r))

  -- ---- by the tests

  clear_of : (a b k : ℕ) → is_clear (corner_by P a) (corner_by P b) (corner_by P k) ≡ true → Clear P (P a) (P b) a b k
  unfolding is_clear is_end right_of
  clear_of a b k h = go (eqb k a) (eqb k b) refl refl h
    where
      go : (x y : Bool) → eqb k a ≡ x → eqb k b ≡ y → x || y || lt_z (turn (P a) (P b) (P k)) (pos 0) ≡ true → Clear P (P a) (P b) a b k
      go true y d e g = one (eqb-true k a d)
      go false true d e g = other (eqb-true k b e)
      go false false d e g = right (lt_z-true _ _ g)

  all-clear-of : (t u : Tri) → all_clear (corner_by P t.p) (corner_by P t.q) (seen_by P u) ≡ true → AllClear t u
  unfolding all_clear seen_by
  all-clear-of t u h =
      let f : ℕ → Bool = λ k. is_clear (corner_by P t.p) (corner_by P t.q) (corner_by P k) in
      let g = and_left (f u.p && f u.q) (f u.r) h in
      record {
        clear-p = clear_of t.p t.q u.p (and_left (f u.p) (f u.q) g);
        clear-q = clear_of t.p t.q u.q (and_right (f u.p) (f u.q) g);
        clear-r = clear_of t.p t.q u.r (and_right (f u.p && f u.q) (f u.r) h);
      }

  -- A SIDE OF ONE IS CLEAN FOR THE OTHER: NOTHING IS AGAINST THE PAIR
  pub clean-none : (t u : Tri) → Above P t → Above P u → clean (seen_by P t) (seen_by P u) ≡ true → grave P t u ≡ 0
  unfolding clean seen_by
  clean-none t u at au h = go (side t) (side (turned t)) (side (turned (turned t))) refl refl refl h
    where
      side : Tri → Bool
      side v = all_clear (corner_by P v.p) (corner_by P v.q) (seen_by P u)

      go : (x y z : Bool) → side t ≡ x → side (turned t) ≡ y → side (turned (turned t)) ≡ z → x || y || z ≡ true → grave P t u ≡ 0
      go true y z a b c g = first-clean t u at au (all-clear-of t u a)
      go false true z a b c g = sym (grave-turned P t u) ∙ first-clean (turned t) u (above-turned t at) au (all-clear-of (turned t) u b)
      go false false z a b c g =
          sym (grave-turned P t u) ∙ sym (grave-turned P (turned t) u) ∙
          first-clean (turned (turned t)) u (above-turned (turned t) (above-turned t at)) au (all-clear-of (turned (turned t)) u (c ∙ g))

  pub cleaned-none : (t u : Tri) → Above P t → Above P u → clean (seen_by P u) (seen_by P t) ≡ true → grave P t u ≡ 0
  cleaned-none t u at au h = grave-sym P t u ∙ clean-none u t au at h
