-- A node is clear of a side of a row if it is an end of that, or strictly right of its line. Then it is on no side of the row; and no corner of
-- the row is on a side between two such nodes. Assumes nothing.
use Rattle.std.specs.Prelude.{◌≡◌, ℕ, pos, ◌≤ℤ◌, ◌<ℤ◌}
use Rattle.std.proofs.Common.{sym, ap, subst, ◌∙◌, arith}
use Rattle.whole.specs.Diff.{onℤ}
use Rattle.meaning.specs.declared.Place.{Place}
use Rattle.meaning.specs.declared.Tri.{Tri}
use Rattle.meaning.specs.Mesh.{turn}
use Rattle.laws.specs.Area.{turn-cycle, turn-from, turn-to}
use Rattle.proper.specs.OnLine.{len, len-above, len-same, len-swap}
use Rattle.proper.specs.Segment.{turn-straight, not-under, not-over, at_first, at_last, not-both}
use Rattle.pairs.specs.OnSide.{On}

module _ (P : ℕ → Place) where
  -- node k is one of two, or strictly right of the line from A to B
  pub data Clear (A B : Place) (a b k : ℕ) : Type 0 where
    one : k ≡ a → Clear A B a b k
    other : k ≡ b → Clear A B a b k
    right : turn A B (P k) <ℤ pos 0 → Clear A B a b k

  swapped : (A B : Place) (a b k : ℕ) → Clear A B a b k → Clear A B b a k
  swapped A B a b k (one e) = other e
  swapped A B a b k (other e) = one e
  swapped A B a b k (right l) = right l

  -- a row with an area above 0
  abbrev pub Above : Tri → Type 0
  Above t = pos 0 <ℤ turn (P t.p) (P t.q) (P t.r)

  -- ---- a row (a, b, r) with an area above 0, and its side a–b

  module _ (a b r : ℕ) (above : pos 0 <ℤ turn (P a) (P b) (P r)) where
    abbrev A : Place
    A = P a

    abbrev B : Place
    B = P b

    abbrev R : Place
    R = P r

    -- a clear node is on no side of the row

    pub off-ab : (k : ℕ) → Clear A B a b k → On P a b k → ⊥
    off-ab k (one e) o = o.not-from e
    off-ab k (other e) o = o.not-to e
    off-ab k (right l) o = not-under A B (P k) o.on_line o.within (len-above A B R above) (turn A B) (turn-straight A B) (omega (arith, onℤ, turn-from A B)) (omega (arith, onℤ, turn-to A B)) l

    pub off-br : (k : ℕ) → Clear A B a b k → On P b r k → ⊥
    off-br k (one e) o =
        let z : turn B R A ≡ pos 0 = subst (λ (n : ℕ). turn B R (P n) ≡ pos 0) e o.on_line in
        omega (arith, onℤ, turn-cycle A B R)
    off-br k (other e) o = o.not-from e
    off-br k (right l) o =
        let far : pos 0 <ℤ turn B R A = omega (arith, onℤ, turn-cycle A B R) in
        not-under B R (P k) o.on_line o.within (len-above B R A far) (turn A B) (turn-straight A B) (omega (arith, onℤ, turn-to A B)) (omega (arith, onℤ)) l

    pub off-ra : (k : ℕ) → Clear A B a b k → On P r a k → ⊥
    off-ra k (one e) o = o.not-to e
    off-ra k (other e) o =
        let z : turn R A B ≡ pos 0 = subst (λ (n : ℕ). turn R A (P n) ≡ pos 0) e o.on_line in
        omega (arith, onℤ, turn-cycle A B R, turn-cycle B R A)
    off-ra k (right l) o =
        let far : pos 0 <ℤ turn R A B = omega (arith, onℤ, turn-cycle A B R, turn-cycle B R A) in
        not-under R A (P k) o.on_line o.within (len-above R A B far) (turn A B) (turn-straight A B) (omega (arith, onℤ)) (omega (arith, onℤ, turn-from A B)) l

    -- ---- nor is a corner of the row on a side between two clear nodes

    pub not-above : (k : ℕ) → Clear A B a b k → turn A B (P k) ≤ℤ pos 0
    not-above k (one e) = let z : turn A B (P k) ≡ pos 0 = subst (λ (n : ℕ). turn A B (P n) ≡ pos 0) (sym e) (turn-from A B) in omega (arith, onℤ)
    not-above k (other e) = let z : turn A B (P k) ≡ pos 0 = subst (λ (n : ℕ). turn A B (P n) ≡ pos 0) (sym e) (turn-to A B) in omega (arith, onℤ)
    not-above k (right l) = omega (arith, onℤ)

    module _ (x y : ℕ) (ax : Clear A B a b x) (ay : Clear A B a b y) (far : pos 0 <ℤ len (P x) (P y)) where
      pub off-r : On P x y r → ⊥
      off-r o = not-over (P x) (P y) R o.on_line o.within far (turn A B) (turn-straight A B) (not-above x ax) (not-above y ay) above

      -- k is a or b, and j is the other
      end : (k j : ℕ) → pos 0 ≤ℤ turn A B (P k) → pos 0 <ℤ len (P j) (P k) → Clear A B k j x → Clear A B k j y → On P x y k → ⊥
      end k j h g (one e) cy o = o.not-from (sym e)
      end k j h g (other e) (one d) o = o.not-to (sym d)
      end k j h g (other e) (other d) o = len-same (P x) (P y) (ap P (e ∙ sym d)) far
      end k j h g (other e) (right l) o =
          let z = at_first (P x) (P y) (P k) o.on_line o.within far (turn A B) (turn-straight A B) (not-above x ax) l h in
          len-same (P j) (P k) (ap P (sym e) ∙ sym z) g
      end k j h g (right l) (one d) o = o.not-to (sym d)
      end k j h g (right l) (other d) o =
          let z = at_last (P x) (P y) (P k) o.on_line o.within far (turn A B) (turn-straight A B) l (not-above y ay) h in
          len-same (P j) (P k) (ap P (sym d) ∙ sym z) g
      end k j h g (right l) (right m) o = not-both (P x) (P y) (P k) o.on_line o.within far (turn A B) (turn-straight A B) l m h

      pub off-a : On P x y a → ⊥
      off-a = end a b (omega (arith, onℤ, turn-from A B)) (omega (arith, onℤ, len-above A B R above, len-swap A B)) ax ay

      pub off-b : On P x y b → ⊥
      off-b = end b a (omega (arith, onℤ, turn-to A B)) (len-above A B R above) (swapped A B a b x ax) (swapped A B a b y ay)
