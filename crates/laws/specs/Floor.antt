-- Rounding down: `floor s d` is s / d rounded down and no other number is; fractions that are one have one floor; a bound on the fraction is one
-- on its floor; and as the machine computes it, whose quotient is rounded toward 0. Assumes nothing.
use Rattle.std.specs.Prelude.{◌≡◌, ℕ, zero, suc, ◌+◌, ◌*◌, ◌-◌, ◌/◌, ◌%◌, ◌<◌, ℤ, pos, negsuc, neg_ℤ, ◌+ℤ◌, ◌-ℤ◌, ◌*ℤ◌, ◌≤ℤ◌, ◌<ℤ◌}
use Rattle.std.proofs.Common.{sym, subst₂, mod-lt, div-add-mod', arith}
use Rattle.std.specs.Int.Signed.{lt_z, quot_z, rem_z}
use Rattle.lists.specs.Lists.{cases}
use Rattle.whole.specs.Diff.{onℤ, sumℤ, subℤ, mulℤ, negℤ-ud}
use Rattle.whole.specs.Ring.{K, ◌:+◌, ◌:*◌, ring2, ring3}
use Rattle.whole.specs.Order.{le_of_eq, le_antisymm, scale-le, scale-lt, unscale-le, unscale-lt}
use Rattle.whole.specs.Tests.{le-lt_z}
use Rattle.meaning.specs.Rounding.{Floor, floor, SameFraction}

-- ---- it is rounded down

one_more : (k d : ℤ) → (k +ℤ pos 1) *ℤ d ≡ k *ℤ d +ℤ d
one_more k d = ring2 (λ k d. ((k :+ K (pos 1)) :* d, k :* d :+ d)) k d tt

-- the same in one product
floor-by : {s d k : ℤ} → (k *ℤ d) ≤ℤ s → s <ℤ (k *ℤ d +ℤ d) → Floor s d k
floor-by {s} {d} {k} l h = record { not-above = l; within-one = rw (one_more k d) h }

-- q and r are quotient and rest of a by n
record Parts (a n q r : ℕ) : Type 0 where
  whole : q * n + r ≡ a
  rest : r < n

parts : (a n : ℕ) → 0 < n → Parts a n (a / n) (a % n)
parts a n h = record { whole = div-add-mod' a n; rest = mod-lt a h }

up-floor : (a n q r : ℕ) → Parts a n q r → Floor (pos a) (pos n) (pos q)
up-floor a n q r h = floor-by (omega (arith, onℤ)) (omega (arith, onℤ))

down-floor : (a n q r : ℕ) → Parts a n q r → Floor (negsuc a) (pos n) (negsuc q)
down-floor a n q r h = let M = mulℤ (negsuc q) (pos n) in floor-by (omega (arith, onℤ)) (omega (arith, onℤ, sumℤ (negsuc q *ℤ pos n) (pos n)))

-- THE FLOOR IS THE FRACTION ROUNDED DOWN.
pub floor-is : (s d : ℤ) → pos 0 <ℤ d → Floor s d (floor s d)
floor-is (pos a) (pos n) h = up-floor a n (a / n) (a % n) (parts a n (omega (arith, onℤ)))
floor-is (negsuc a) (pos n) h = down-floor a n (a / n) (a % n) (parts a n (omega (arith, onℤ)))
floor-is s (negsuc n) h = absurd (omega (arith, onℤ))

-- ---- and no other number is

module _ {s d : ℤ} (above : pos 0 <ℤ d) where
  -- a number not above the fraction is not above its floor
  pub floor-greatest : {k : ℤ} (j : ℤ) → (j *ℤ d) ≤ℤ s → Floor s d k → j ≤ℤ k
  floor-greatest {k} j l h = let n = unscale-lt d j (k +ℤ pos 1) above (omega (arith, onℤ, h.within-one)) in omega (arith, onℤ, sumℤ k (pos 1))

  -- a number not below the fraction is not below its floor
  pub floor-least : {k : ℤ} (j : ℤ) → s ≤ℤ (j *ℤ d) → Floor s d k → k ≤ℤ j
  floor-least {k} j l h = unscale-le d k j above (omega (arith, onℤ, h.not-above))

  floor-one : (j k : ℤ) → Floor s d j → Floor s d k → j ≡ k
  floor-one j k h i = le_antisymm (floor-greatest j h.not-above i) (floor-greatest k i.not-above h)

  -- ANY WHOLE NUMBER WITH THESE BOUNDS IS THE FLOOR.
  pub floor-only : (k : ℤ) → Floor s d k → floor s d ≡ k
  floor-only k h = floor-one (floor s d) k (floor-is s d above) h

  -- where the fraction is whole, the floor is the fraction
  pub floor-exact : (k : ℤ) → s ≡ k *ℤ d → floor s d ≡ k
  floor-exact k e = floor-only k (floor-by (le_of_eq (sym e)) (omega (arith, onℤ, sumℤ (k *ℤ d) d)))

-- FRACTIONS THAT ARE ONE HAVE ONE FLOOR.
pub floor-same : (s d s' d' : ℤ) → pos 0 <ℤ d → pos 0 <ℤ d' → SameFraction s d s' d' → floor s d ≡ floor s' d'
floor-same s d s' d' h h' e = floor-only h k (record {
  not-above = unscale-le d' (k *ℤ d) s h' (subst₂ (λ a b. a ≤ℤ b) (swap k) (sym e) (scale-le d (k *ℤ d') s' (omega (arith, onℤ)) F.not-above));
  within-one = unscale-lt d' s ((k +ℤ pos 1) *ℤ d) h' (subst₂ (λ a b. a <ℤ b) (sym e) (swap (k +ℤ pos 1)) (scale-lt d s' ((k +ℤ pos 1) *ℤ d') h F.within-one));
})
  where
    k : ℤ
    k = floor s' d'

    F : Floor s' d' k
    F = floor-is s' d' h'

    swap : (k : ℤ) → (k *ℤ d') *ℤ d ≡ (k *ℤ d) *ℤ d'
    swap k = ring3 (λ k d e. ((k :* e) :* d, (k :* d) :* e)) k d d' tt

-- ---- as the machine has it: the quotient toward 0, less 1 where the rest is below 0

less_one : (q : ℕ) → neg_ℤ (pos q) -ℤ pos 1 ≡ negsuc q
less_one q = omega (arith, onℤ, subℤ (neg_ℤ (pos q)) (pos 1), negℤ-ud (pos q))

down-quot : (a n q r : ℕ) → Parts (suc a) n q r → Floor (negsuc a) (pos n) (cases (lt_z (neg_ℤ (pos r)) (pos 0)) (neg_ℤ (pos q) -ℤ pos 1) (neg_ℤ (pos q)))
down-quot a n zero zero h = absurd (omega arith)
down-quot a n (suc q) zero h = down-floor a n q (n - 1) (record { whole = omega arith; rest = omega arith })
down-quot a n q (suc r) h = rw (less_one q) (down-floor a n q r (record { whole = omega arith; rest = omega arith }))

pub floor-quot : (s d : ℤ) → pos 0 <ℤ d → floor s d ≡ cases (lt_z (rem_z s d) (pos 0)) (quot_z s d -ℤ pos 1) (quot_z s d)
floor-quot (pos a) (pos n) h = rw (le-lt_z (pos (a % n)) (pos 0) (omega (arith, onℤ))) (floor-only h (pos (a / n)) (up-floor a n (a / n) (a % n) (parts a n (omega (arith, onℤ)))))
floor-quot (negsuc a) (pos n) h = floor-only h _ (down-quot a n (suc a / n) (suc a % n) (parts (suc a) n (omega (arith, onℤ))))
floor-quot s (negsuc n) h = absurd (omega (arith, onℤ))
