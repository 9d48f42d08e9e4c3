-- The order of ℤ: what to name where a proof is by hand. Anything linear is `omega (arith, onℤ)`; a sum, a difference or a product in it wants its line: `sumℤ x y`, `subℤ x y`, `mulℤ x y`.
use Rattle.std.specs.Prelude.{Bool, true, false, ◌⊎◌, ◌≡◌, refl, zero, suc, ℤ, pos, negsuc, ◌-ℤ◌, ◌*ℤ◌, ◌≤ℤ◌, ◌<ℤ◌}
use Rattle.std.proofs.Common.{inl, inr, sym, arith}
use Rattle.std.proofs.Math.IntN.{*ℤ_comm}
use Rattle.std.specs.Int.Signed.{lt_z}
use Rattle.whole.specs.Diff.{onℤ, subℤ, mulℤ}
use Rattle.whole.specs.Ring.{◌:-◌, ◌:*◌, ring3}
use Rattle.whole.specs.Tests.{lt_z-true, lt_z-false}

pub le_of_eq : {a b : ℤ} → a ≡ b → a ≤ℤ b
le_of_eq h = omega (arith, onℤ)

pub le_antisymm : {a b : ℤ} → a ≤ℤ b → b ≤ℤ a → a ≡ b
le_antisymm h i = omega (arith, onℤ)

pub lt_not_le : {a b : ℤ} → a <ℤ b → b ≤ℤ a → ⊥
lt_not_le h i = omega (arith, onℤ)

-- one of the two, by the test
pub lt-or-le : (a b : ℤ) → (a <ℤ b) ⊎ (b ≤ℤ a)
lt-or-le a b = go (lt_z a b) refl
  where
    go : (t : Bool) → lt_z a b ≡ t → (a <ℤ b) ⊎ (b ≤ℤ a)
    go true e = inl (lt_z-true a b e)
    go false e = inr (lt_z-false a b e)

-- ---- products by what is not below 0

pub nonneg-times : (a b : ℤ) → pos 0 ≤ℤ a → pos 0 ≤ℤ b → pos 0 ≤ℤ (a *ℤ b)
nonneg-times (pos a) (pos b) h i = omega (arith, onℤ)
nonneg-times (pos a) (negsuc b) h i = absurd (omega (arith, onℤ))
nonneg-times (negsuc a) b h i = absurd (omega (arith, onℤ))

pub positive-times : (a b : ℤ) → pos 0 <ℤ a → pos 0 <ℤ b → pos 0 <ℤ (a *ℤ b)
positive-times (pos zero) b h i = absurd (omega (arith, onℤ))
positive-times (pos (suc a)) (pos zero) h i = absurd (omega (arith, onℤ))
positive-times (pos (suc a)) (pos (suc b)) h i = omega (arith, onℤ)
positive-times (pos (suc a)) (negsuc b) h i = absurd (omega (arith, onℤ))
positive-times (negsuc a) b h i = absurd (omega (arith, onℤ))

pub nonneg-square : (a : ℤ) → pos 0 ≤ℤ (a *ℤ a)
nonneg-square (pos a) = omega (arith, onℤ)
nonneg-square (negsuc a) = omega (arith, onℤ)

pub square-none : (a : ℤ) → (a *ℤ a) ≤ℤ pos 0 → a ≡ pos 0
square-none (pos zero) h = refl
square-none (pos (suc a)) h = absurd (omega (arith, onℤ))
square-none (negsuc a) h = absurd (omega (arith, onℤ))

difference : (a b d : ℤ) → b *ℤ d -ℤ a *ℤ d ≡ (b -ℤ a) *ℤ d
difference a b d = ring3 (λ a b d. (b :* d :- a :* d, (b :- a) :* d)) a b d tt

pub scale-le : (d a b : ℤ) → pos 0 ≤ℤ d → a ≤ℤ b → (a *ℤ d) ≤ℤ (b *ℤ d)
scale-le d a b h l =
    let p = nonneg-times (b -ℤ a) d (omega (arith, onℤ, subℤ b a)) h in
    let q : pos 0 ≤ℤ (b *ℤ d -ℤ a *ℤ d) = rw (difference a b d) p in
    omega (arith, onℤ, subℤ (b *ℤ d) (a *ℤ d))

pub times-le : (d a b : ℤ) → pos 0 ≤ℤ d → a ≤ℤ b → (d *ℤ a) ≤ℤ (d *ℤ b)
times-le d a b h l = rw (*ℤ_comm d a, *ℤ_comm d b) (scale-le d a b h l)

pub nonpos-times : (d a : ℤ) → pos 0 ≤ℤ d → a ≤ℤ pos 0 → (d *ℤ a) ≤ℤ pos 0
nonpos-times d a h l = omega (arith, onℤ, mulℤ d (pos 0), times-le d a (pos 0) h l)

pub scale-lt : (d a b : ℤ) → pos 0 <ℤ d → a <ℤ b → (a *ℤ d) <ℤ (b *ℤ d)
scale-lt d a b h l =
    let p = positive-times (b -ℤ a) d (omega (arith, onℤ, subℤ b a)) h in
    let q : pos 0 <ℤ (b *ℤ d -ℤ a *ℤ d) = rw (difference a b d) p in
    omega (arith, onℤ, subℤ (b *ℤ d) (a *ℤ d))

pub negative-times : (d a : ℤ) → pos 0 <ℤ d → a <ℤ pos 0 → (d *ℤ a) <ℤ pos 0
negative-times d a h l = rw (*ℤ_comm d a) (omega (arith, onℤ, mulℤ (pos 0) d, scale-lt d a (pos 0) h l))

-- what is above 0 cancels
pub unscale-le : (d a b : ℤ) → pos 0 <ℤ d → (a *ℤ d) ≤ℤ (b *ℤ d) → a ≤ℤ b
unscale-le d a b h l = go (lt-or-le b a)
  where
    go : (b <ℤ a) ⊎ (a ≤ℤ b) → a ≤ℤ b
    go (inl k) = absurd (lt_not_le (scale-lt d b a h k) l)
    go (inr k) = k

pub unscale-lt : (d a b : ℤ) → pos 0 <ℤ d → (a *ℤ d) <ℤ (b *ℤ d) → a <ℤ b
unscale-lt d a b h l = go (lt-or-le a b)
  where
    go : (a <ℤ b) ⊎ (b ≤ℤ a) → a <ℤ b
    go (inl k) = k
    go (inr k) = absurd (lt_not_le l (scale-le d b a (omega (arith, onℤ)) k))

pub times-cancel : (d a b : ℤ) → pos 0 <ℤ d → d *ℤ a ≡ d *ℤ b → a ≡ b
times-cancel d a b h e =
    let f : a *ℤ d ≡ b *ℤ d = rw (*ℤ_comm a d, *ℤ_comm b d) e in
    le_antisymm (unscale-le d a b h (le_of_eq f)) (unscale-le d b a h (le_of_eq (sym f)))
