-- A node on a side and at neither of its ends, by the test and as facts. P gives the place of each node. Assumes nothing.
use Rattle.std.specs.Prelude.{Bool, true, not, ◌&&◌, ◌||◌, ◌≢◌, ◌≡◌, refl, ℕ, eqb, pos, ◌≤ℤ◌}
use Rattle.std.proofs.lemmas.Bool.{eqb-false, not-true}
use Rattle.std.proofs.Common.{ne_eqb}
use Rattle.std.specs.Int.Signed.{le_z}
use Rattle.whole.specs.Tests.{le_z-true, le-le_z}
use Rattle.lists.specs.ListsLaw.{and_both, and_left, and_right, or_no}
use Rattle.meaning.specs.declared.Place.{Place}
use Rattle.meaning.specs.Mesh.{arrow, turn}
use Rattle.meaning.specs.Good.{same_z}
use Rattle.meaning.specs.Proper.{facing}
use Rattle.laws.specs.Star.{same_z-eq, eq-same_z}
use Rattle.pairs.specs.Pair.{on_side}

module _ (P : ℕ → Place) where
  -- node k is on the line from x to y, not beyond an end, and is neither end
  pub record On (x y k : ℕ) : Type 0 where
    pub not-from : k ≢ x
    pub not-to : k ≢ y
    pub on_line : turn (P x) (P y) (P k) ≡ pos 0
    pub within : facing (P x) (P y) (P k) ≤ℤ pos 0

  pub on-is : (x y k : ℕ) → on_side P (arrow x y) k ≡ true → On x y k
  on-is x y k h =
      let n = or_no (eqb k x) (eqb k y) (not-true (eqb k x || eqb k y) (and_left end line pair)) in
      record {
        not-from = eqb-false k x n.0;
        not-to = eqb-false k y n.1;
        on_line = same_z-eq (turn (P x) (P y) (P k)) (pos 0) (and_right end line pair);
        within = le_z-true (facing (P x) (P y) (P k)) (pos 0) (and_right (end && line) near h);
      }
    where
      end : Bool
      end = not (eqb k x || eqb k y)

      line : Bool
      line = same_z (turn (P x) (P y) (P k)) (pos 0)

      near : Bool
      near = le_z (facing (P x) (P y) (P k)) (pos 0)

      pair : end && line ≡ true
      pair = and_left (end && line) near h

  pub is-on : (x y k : ℕ) → On x y k → on_side P (arrow x y) k ≡ true
  is-on x y k h =
      let ends : not (eqb k x || eqb k y) ≡ true = rw (ne_eqb k x h.not-from, ne_eqb k y h.not-to) refl in
      and_both (and_both ends (eq-same_z _ (pos 0) h.on_line)) (le-le_z _ (pos 0) h.within)
