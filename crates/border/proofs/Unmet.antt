-- Where no node touches an edge and no two edges cross, the tests of a border's arrows say so. Assumes nothing.
use Rattle.std.specs.Prelude.{Bool, true, false, ◌&&◌, ◌||◌, ◌⊎◌, ◌≡◌, refl, ℕ, ℤ, pos, ◌≤ℤ◌, ◌<ℤ◌}
use Rattle.std.proofs.Common.{inl, inr}
use Rattle.std.specs.Int.Signed.{lt_z}
use Rattle.whole.specs.Order.{le_antisymm, lt-or-le}
use Rattle.whole.specs.Tests.{lt_z-true}
use Rattle.lists.specs.ListsLaw.{and_left, and_right}
use Rattle.meaning.specs.declared.Place.{Place}
use Rattle.meaning.specs.Mesh.{Mesh, Arrow, at, turn}
use Rattle.meaning.specs.Proper.{facing}
use Rattle.pairs.specs.Pair.{on_side}
use Rattle.laws.specs.Exact.{refuted}
use Rattle.proper.specs.Segment.{at-end}
use Rattle.pairs.specs.OnSide.{On, on-is}
use Rattle.border.specs.Nearest.{Slanted}
use Rattle.border.specs.Under.{Form}
use Rattle.border.specs.Meet.{Opposite, down, upwards, Cross, len-above}
use Rattle.border.specs.Quiet.{NoTouch}
use Rattle.border.specs.Clear.{opposite, crosses}

-- a node that is not strictly inside e, and at an end's place only as that end, is not on e
module _ (f : Form) (m : Mesh) (e : Arrow) (k : ℕ) (slanted : Slanted f m e) (free : NoTouch m e k) where
  abbrev A : Place
  A = at m e.from

  abbrev B : Place
  B = at m e.to

  never_on : On (at m) e.from e.to k → ⊥
  never_on o = go (lt-or-le (facing A B (at m k)) (pos 0))
    where
      end : (at m k ≡ A) ⊎ (at m k ≡ B) → ⊥
      end (inl w) = o.not-from (free.at-start w)
      end (inr w) = o.not-to (free.at-end w)

      go : (facing A B (at m k) <ℤ pos 0) ⊎ (pos 0 ≤ℤ facing A B (at m k)) → ⊥
      go (inl g) = free.not-inside (record { on_line = o.on_line; between = g })
      go (inr g) = end (at-end A B (at m k) o.on_line o.within (len-above f A B slanted) (le_antisymm o.within g))

  pub not-on-side : on_side (at m) e k ≡ false
  not-on-side = refuted (on_side (at m) e k) (λ h. never_on (on-is (at m) e.from e.to k h))

-- what the test of signs says
pub opposite-signs : (x y : ℤ) → opposite x y ≡ true → Opposite x y
opposite-signs x y h = step (lt_z x (pos 0) && lt_z (pos 0) y) refl h
  where
    step : (b : Bool) → lt_z x (pos 0) && lt_z (pos 0) y ≡ b → b || (lt_z (pos 0) x && lt_z y (pos 0)) ≡ true → Opposite x y
    step true e h = upwards (lt_z-true x (pos 0) (and_left (lt_z x (pos 0)) (lt_z (pos 0) y) e)) (lt_z-true (pos 0) y (and_right (lt_z x (pos 0)) (lt_z (pos 0) y) e))
    step false e h = down (lt_z-true (pos 0) x (and_left (lt_z (pos 0) x) (lt_z y (pos 0)) h)) (lt_z-true y (pos 0) (and_right (lt_z (pos 0) x) (lt_z y (pos 0)) h))

-- two edges that do not cross
pub not-crossing : (A B C D : Place) → ¬ Cross A B C D → crosses A B C D ≡ false
not-crossing A B C D n = refuted (crosses A B C D) (λ h. n (record {
  ends-of-second = opposite-signs (turn A B C) (turn A B D) (and_left (opposite (turn A B C) (turn A B D)) (opposite (turn C D A) (turn C D B)) h);
  ends-of-first = opposite-signs (turn C D A) (turn C D B) (and_right (opposite (turn A B C) (turn A B D)) (opposite (turn C D A) (turn C D B)) h);
}))
