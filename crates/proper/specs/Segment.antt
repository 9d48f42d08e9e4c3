-- A place Q on the line of X and Y, at a distance, and not beyond either: a linear form at Q is the mean of what it is at X and at Y. Assumes nothing.
use Rattle.std.specs.Prelude.{◌⊎◌, ◌≡◌, ℤ, pos, ◌+ℤ◌, ◌-ℤ◌, ◌*ℤ◌, ◌≤ℤ◌, ◌<ℤ◌}
use Rattle.std.proofs.Common.{inl, inr, subst, ◌∙◌, arith}
use Rattle.std.proofs.Math.IntN.{+ℤ_comm}
use Rattle.whole.specs.Diff.{onℤ, sumℤ, subℤ}
use Rattle.whole.specs.Ring.{K, ◌:+◌, ◌:-◌, ◌:*◌, ring9, combine₁}
use Rattle.whole.specs.Order.{le_antisymm, lt-or-le, nonneg-times, nonpos-times, positive-times, negative-times}
use Rattle.meaning.specs.declared.Place.{Place}
use Rattle.meaning.specs.Mesh.{turn}
use Rattle.meaning.specs.Proper.{facing}
use Rattle.laws.specs.Area.{turn_expr, turn-back}
use Rattle.proper.specs.Convex.{Form, val, side, spot}
use Rattle.proper.specs.OnLine.{along, len, along_expr, len-nonneg, from_start, from_end, inside-of-along, at-start, along-swap, len-swap}
use Rattle.proper.specs.Sharing.{side-turn}

-- ---- numbers of a place that are means along every line

abbrev pub Straight : (Place → ℤ) → Type 0
Straight φ = (X Y Q : Place) → turn X Y Q ≡ pos 0 → len X Y *ℤ φ Q ≡ (len X Y -ℤ along X Y Q) *ℤ φ X +ℤ along X Y Q *ℤ φ Y

pub form-straight : (f : Form) → Straight (λ Q. val f (spot Q))
unfolding val
form-straight f X Y Q flat = combine₁ (f.a *ℤ (X.y -ℤ Y.y) +ℤ f.b *ℤ (Y.x -ℤ X.x)) flat
    (ring9 (λ a b c x y v w q r. (
      along_expr x y v w v w :* (a :* q :+ b :* r :+ c :* K (pos 1)) :-
          ((along_expr x y v w v w :- along_expr x y v w q r) :* (a :* x :+ b :* y :+ c :* K (pos 1)) :+ along_expr x y v w q r :* (a :* v :+ b :* w :+ c :* K (pos 1))),
      (a :* (y :- w) :+ b :* (v :- x)) :* (turn_expr x y v w q r :- K (pos 0)),
    )) f.a f.b f.c X.x X.y Y.x Y.y Q.x Q.y tt)

pub turn-straight : (A B : Place) → Straight (turn A B)
turn-straight A B = subst Straight (λ i Q. side-turn A B Q i) (form-straight (side A B))

-- of a mean that is not below 0, and of which no part is above: a part below 0 has no weight
weightless : (l q x w y v : ℤ) → pos 0 <ℤ l → pos 0 ≤ℤ q → l *ℤ q ≡ w *ℤ x +ℤ v *ℤ y → x <ℤ pos 0 → y ≤ℤ pos 0 → pos 0 ≤ℤ v → w ≤ℤ pos 0
weightless l q x w y v a j e h i k = go (lt-or-le (pos 0) w)
  where
    go : (pos 0 <ℤ w) ⊎ (w ≤ℤ pos 0) → w ≤ℤ pos 0
    go (inr m) = m
    go (inl m) = absurd (omega (arith, onℤ, nonneg-times l q (omega (arith, onℤ, a)) j, negative-times w x m h, nonpos-times v y k i, sumℤ (w *ℤ x) (v *ℤ y)))

module _ (X Y Q : Place) (flat : turn X Y Q ≡ pos 0) (within : facing X Y Q ≤ℤ pos 0) (apart : pos 0 <ℤ len X Y) where
  -- what is left of the way
  abbrev rest : ℤ
  rest = len X Y -ℤ along X Y Q

  along-nonneg : pos 0 ≤ℤ along X Y Q
  along-nonneg = let e = from_start X Y Q in omega (arith, onℤ, len-nonneg X Q, sumℤ (along X Y Q) (facing X Y Q))

  rest-nonneg : pos 0 ≤ℤ rest
  rest-nonneg = let e = from_end X Y Q in omega (arith, onℤ, len-nonneg Y Q, sumℤ rest (facing X Y Q))

  none-gone : along X Y Q ≤ℤ pos 0 → Q ≡ X
  none-gone h = at-start X Y Q flat apart (le_antisymm h along-nonneg)

  none_left : rest ≤ℤ pos 0 → Q ≡ Y
  none_left h = at-start Y X Q (turn-back X Y Q flat) (rw (len-swap X Y) apart) (along-swap X Y Q ∙ le_antisymm h rest-nonneg)

  -- not strictly inside: at an end
  pub at-end : facing X Y Q ≡ pos 0 → (Q ≡ X) ⊎ (Q ≡ Y)
  at-end e = go (lt-or-le (pos 0) (along X Y Q)) (lt-or-le (along X Y Q) (len X Y))
    where
      go : (pos 0 <ℤ along X Y Q) ⊎ (along X Y Q ≤ℤ pos 0) → (along X Y Q <ℤ len X Y) ⊎ (len X Y ≤ℤ along X Y Q) → (Q ≡ X) ⊎ (Q ≡ Y)
      go (inl h) (inl i) = absurd (let s = (inside-of-along X Y Q flat apart h i).between in omega (arith, onℤ))
      go (inl h) (inr i) = inr (none_left (omega (arith, onℤ, subℤ (len X Y) (along X Y Q))))
      go (inr h) i = inl (none-gone h)

  -- ---- the signs of such a number

  module _ (φ : Place → ℤ) (straight : Straight φ) where
    -- below 0 at neither end: nor at Q
    pub not-under : pos 0 ≤ℤ φ X → pos 0 ≤ℤ φ Y → φ Q <ℤ pos 0 → ⊥
    not-under h i j =
        let e = straight X Y Q flat in
        omega (arith, onℤ, negative-times (len X Y) (φ Q) apart j, nonneg-times rest (φ X) rest-nonneg h, nonneg-times (along X Y Q) (φ Y) along-nonneg i, sumℤ (rest *ℤ φ X) (along X Y Q *ℤ φ Y))

    -- above 0 at neither end: nor at Q
    pub not-over : φ X ≤ℤ pos 0 → φ Y ≤ℤ pos 0 → pos 0 <ℤ φ Q → ⊥
    not-over h i j =
        let e = straight X Y Q flat in
        omega (arith, onℤ, positive-times (len X Y) (φ Q) apart j, nonpos-times rest (φ X) rest-nonneg h, nonpos-times (along X Y Q) (φ Y) along-nonneg i, sumℤ (rest *ℤ φ X) (along X Y Q *ℤ φ Y))

    -- it is not below 0 at Q. Where it is below 0 at one end and not above 0 at the other, Q is at the other
    rest-none : φ X <ℤ pos 0 → φ Y ≤ℤ pos 0 → pos 0 ≤ℤ φ Q → rest ≤ℤ pos 0
    rest-none h i j = weightless (len X Y) (φ Q) (φ X) rest (φ Y) (along X Y Q) apart j (straight X Y Q flat) h i along-nonneg

    along-none : φ X ≤ℤ pos 0 → φ Y <ℤ pos 0 → pos 0 ≤ℤ φ Q → along X Y Q ≤ℤ pos 0
    along-none h i j =
        weightless (len X Y) (φ Q) (φ Y) (along X Y Q) (φ X) rest apart j (straight X Y Q flat ∙ +ℤ_comm (rest *ℤ φ X) (along X Y Q *ℤ φ Y)) i h rest-nonneg

    pub at_last : φ X <ℤ pos 0 → φ Y ≤ℤ pos 0 → pos 0 ≤ℤ φ Q → Q ≡ Y
    at_last h i j = none_left (rest-none h i j)

    pub at_first : φ X ≤ℤ pos 0 → φ Y <ℤ pos 0 → pos 0 ≤ℤ φ Q → Q ≡ X
    at_first h i j = none-gone (along-none h i j)

    -- so not below 0 at both
    pub not-both : φ X <ℤ pos 0 → φ Y <ℤ pos 0 → pos 0 ≤ℤ φ Q → ⊥
    not-both h i j = omega (arith, onℤ, rest-none h (omega (arith, onℤ, i)) j, along-none (omega (arith, onℤ, h)) i j, subℤ (len X Y) (along X Y Q))
