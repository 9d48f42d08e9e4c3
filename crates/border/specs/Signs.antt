-- Signs of whole numbers: of negatives, of differences and of products. Assumes nothing.
use Rattle.std.specs.Prelude.{Bool, true, false, not, ◌≢◌, ◌⊎◌, ◌≡◌, refl, ℕ, zero, suc, ℤ, pos, negsuc, neg_ℤ, ◌+ℤ◌, ◌-ℤ◌, ◌*ℤ◌, ◌≤ℤ◌, ◌<ℤ◌}
use Rattle.std.proofs.Common.{inl, inr, sym, ap, ap₂, subst, ◌∙◌, arith}
use Rattle.std.specs.Int.Signed.{lt_z}
use Rattle.whole.specs.Diff.{onℤ, sumℤ, subℤ, mulℤ, negℤ-ud}
use Rattle.whole.specs.Ring.{K, ◌:*◌, ring2}
use Rattle.whole.specs.Tests.{lt_z-true, lt_z-false, lt-lt_z, le-lt_z}
use Rattle.whole.specs.Order.{le_antisymm, unscale-lt}
use Rattle.lists.specs.ListsLaw.{both_ways}

-- ---- what an order says

pub lt-le : {a b : ℤ} → a <ℤ b → a ≤ℤ b
lt-le h = omega (arith, onℤ)

pub above-not : {z : ℤ} → pos 0 <ℤ z → z ≢ pos 0
above-not h e = omega (arith, onℤ)

pub below-not : {z : ℤ} → z <ℤ pos 0 → z ≢ pos 0
below-not h e = omega (arith, onℤ)

-- the test of a number below 0
pub lt_not : {z : ℤ} → z <ℤ pos 0 → lt_z (pos 0) z ≡ false
lt_not {z} h = le-lt_z (pos 0) z (omega (arith, onℤ))

pub not-lt : (a b : ℤ) → a ≢ b → lt_z b a ≡ not (lt_z a b)
not-lt a b n = go (lt_z a b) refl
  where
    go : (t : Bool) → lt_z a b ≡ t → lt_z b a ≡ not t
    go true e = le-lt_z b a (let l = lt_z-true a b e in omega (arith, onℤ))
    go false e = swap (lt_z b a) refl
      where
        swap : (u : Bool) → lt_z b a ≡ u → u ≡ true
        swap true w = refl
        swap false w = absurd (n (le_antisymm (lt_z-false b a w) (lt_z-false a b e)))

pub below-zero : (a : ℤ) → a ≢ pos 0 → lt_z (pos 0) a ≡ false → a <ℤ pos 0
below-zero a n e = lt_z-true a (pos 0) (not-lt (pos 0) a (λ w. n (sym w)) ∙ ap not e)

pub zero_or_not : (z : ℤ) → (z ≡ pos 0) ⊎ (z ≢ pos 0)
zero_or_not (pos zero) = inl refl
zero_or_not (pos (suc n)) = inr (λ e. omega (arith, onℤ))
zero_or_not (negsuc n) = inr (λ e. omega (arith, onℤ))

-- ---- sums

pub sum-above : (a b : ℤ) → pos 0 <ℤ a → pos 0 ≤ℤ b → pos 0 <ℤ (a +ℤ b)
sum-above a b h i = omega (arith, onℤ, sumℤ a b)

-- ---- negatives

pub minus-above : (z : ℤ) → z <ℤ pos 0 → pos 0 <ℤ neg_ℤ z
minus-above z h = omega (arith, onℤ, negℤ-ud z)

pub minus-below : (z : ℤ) → pos 0 <ℤ z → neg_ℤ z <ℤ pos 0
minus-below z h = omega (arith, onℤ, negℤ-ud z)

pub below-of-minus : (z : ℤ) → pos 0 <ℤ neg_ℤ z → z <ℤ pos 0
below-of-minus z h = omega (arith, onℤ, negℤ-ud z)

pub zero-of-minus : (z : ℤ) → neg_ℤ z ≡ pos 0 → z ≡ pos 0
zero-of-minus z h = omega (arith, onℤ, negℤ-ud z)

-- what is its own negative is 0
pub own-negative : (a : ℤ) → a ≡ neg_ℤ a → a ≡ pos 0
own-negative a e = omega (arith, onℤ, negℤ-ud a)

pub neg-above : (z : ℤ) → z ≢ pos 0 → lt_z (pos 0) (neg_ℤ z) ≡ not (lt_z (pos 0) z)
neg-above z n = both_ways (lt_z (pos 0) (neg_ℤ z)) (lt_z z (pos 0))
    (λ e. lt-lt_z z (pos 0) (below-of-minus z (lt_z-true (pos 0) (neg_ℤ z) e)))
    (λ e. lt-lt_z (pos 0) (neg_ℤ z) (minus-above z (lt_z-true z (pos 0) e))) ∙
    not-lt (pos 0) z (λ e. n (sym e))

-- ---- differences

pub equal-of-zero : (a b : ℤ) → a -ℤ b ≡ pos 0 → a ≡ b
equal-of-zero a b e = omega (arith, onℤ, subℤ a b)

pub zero-of-equal : (a b : ℤ) → a ≡ b → a -ℤ b ≡ pos 0
zero-of-equal a b e = omega (arith, onℤ, subℤ a b)

pub zero-swapped : (a b : ℤ) → a -ℤ b ≡ pos 0 → b -ℤ a ≡ pos 0
zero-swapped a b e = omega (arith, onℤ, subℤ a b, subℤ b a)

pub above-swapped : (a b : ℤ) → (b -ℤ a) <ℤ pos 0 → pos 0 <ℤ (a -ℤ b)
above-swapped a b h = omega (arith, onℤ, subℤ a b, subℤ b a)

pub below-swapped : (a b : ℤ) → pos 0 <ℤ (b -ℤ a) → (a -ℤ b) <ℤ pos 0
below-swapped a b h = omega (arith, onℤ, subℤ a b, subℤ b a)

pub difference-above : (a b : ℤ) → b <ℤ a → pos 0 <ℤ (a -ℤ b)
difference-above a b h = omega (arith, onℤ, subℤ a b)

pub lt-of-difference : (a b : ℤ) → pos 0 <ℤ (a -ℤ b) → b <ℤ a
lt-of-difference a b h = omega (arith, onℤ, subℤ a b)

pub difference-swapped : (a b : ℤ) → b -ℤ a ≡ neg_ℤ (a -ℤ b)
difference-swapped a b = omega (arith, onℤ, subℤ a b, subℤ b a, negℤ-ud (a -ℤ b))

pub lt-zero : (a b : ℤ) → lt_z a b ≡ lt_z (pos 0) (b -ℤ a)
lt-zero a b = both_ways _ _ (λ e. lt-lt_z (pos 0) (b -ℤ a) (difference-above b a (lt_z-true a b e)))
    (λ e. lt-lt_z a b (lt-of-difference b a (lt_z-true (pos 0) (b -ℤ a) e)))

-- ---- products

-- the two tests agree
abbrev pub agree : Bool → Bool → Bool
agree true b = b
agree false b = not b

positive : (a : ℕ) → lt_z (pos 0) (pos (suc a)) ≡ true
positive a = lt-lt_z (pos 0) (pos (suc a)) (omega (arith, onℤ))

pub sign-product : (a b : ℤ) → a ≢ pos 0 → b ≢ pos 0 → (lt_z (pos 0) (a *ℤ b) ≡ agree (lt_z (pos 0) a) (lt_z (pos 0) b)) × (a *ℤ b ≢ pos 0)
sign-product (pos zero) b h i = absurd (h refl)
sign-product (pos (suc a)) (pos zero) h i = absurd (i refl)
sign-product (pos (suc a)) (pos (suc b)) h i =
    let l : pos 0 <ℤ (pos (suc a) *ℤ pos (suc b)) = omega (arith, onℤ) in
    (lt-lt_z _ _ l ∙ sym (ap₂ agree (positive a) (positive b)), above-not l)
sign-product (pos (suc a)) (negsuc b) h i =
    let l : (pos (suc a) *ℤ negsuc b) <ℤ pos 0 = omega (arith, onℤ, mulℤ (pos (suc a)) (negsuc b)) in
    (lt_not l ∙ sym (ap (λ c. agree c false) (positive a)), below-not l)
sign-product (negsuc a) (pos zero) h i = absurd (i refl)
sign-product (negsuc a) (pos (suc b)) h i =
    let l : (negsuc a *ℤ pos (suc b)) <ℤ pos 0 = omega (arith, onℤ, mulℤ (negsuc a) (pos (suc b))) in
    (lt_not l ∙ sym (ap not (positive b)), below-not l)
sign-product (negsuc a) (negsuc b) h i =
    let l : pos 0 <ℤ (negsuc a *ℤ negsuc b) = omega (arith, onℤ) in
    (lt-lt_z _ _ l, above-not l)

-- what is not 0 cancels
pub cancel : (a x : ℤ) → a ≢ pos 0 → a *ℤ x ≡ pos 0 → x ≡ pos 0
cancel a (pos zero) n e = refl
cancel a (pos (suc x)) n e = absurd ((sign-product a (pos (suc x)) n (λ g. omega (arith, onℤ))).1 e)
cancel a (negsuc x) n e = absurd ((sign-product a (negsuc x) n (λ g. omega (arith, onℤ))).1 e)

pub unscale-above : (a d : ℤ) → pos 0 <ℤ d → pos 0 <ℤ (a *ℤ d) → pos 0 <ℤ a
unscale-above a d h l = unscale-lt d (pos 0) a h (subst (λ k. k <ℤ (a *ℤ d)) (ring2 (λ a d. (K (pos 0), K (pos 0) :* d)) a d tt) l)
