-- Magnitudes: a bound on |z| goes through sums, differences and products, and says that z fits a width.
use Rattle.std.specs.Prelude.{◌≡◌, refl, ℕ, zero, suc, ◌+◌, ◌*◌, ◌^◌, ◌≤◌, max, T, ltb, ℤ, pos, negsuc, neg_ℤ, nat_abs, ◌+ℤ◌, ◌-ℤ◌, ◌*ℤ◌}
use Rattle.std.proofs.Common.{mul-le-mul, arith, ltb→lt}
use Rattle.std.specs.Int.Signed.{mag}
use Rattle.std.specs.Int.{Width}
use mir.Val.{SFits, hbits}
use Rattle.whole.specs.Diff.{up, dn, sumℤ}

-- what `omega` has to know of a magnitude: `omega (arith, onℤ, absℤ x)`
pub absℤ : (z : ℤ) → (nat_abs z ≡ up z + dn z) × (nat_abs z ≡ max (up z) (dn z))
absℤ (pos n) = omega arith
absℤ (negsuc n) = omega arith

pub abs-add : (x y : ℤ) {m n : ℕ} → nat_abs x ≤ m → nat_abs y ≤ n → nat_abs (x +ℤ y) ≤ m + n
abs-add x y h k = omega (arith, absℤ x, absℤ y, absℤ (x +ℤ y), sumℤ x y)

pub abs_neg : (x : ℤ) → nat_abs (neg_ℤ x) ≡ nat_abs x
abs_neg (pos zero) = refl
abs_neg (pos (suc n)) = refl
abs_neg (negsuc n) = refl

pub abs-sub : (x y : ℤ) {m n : ℕ} → nat_abs x ≤ m → nat_abs y ≤ n → nat_abs (x -ℤ y) ≤ m + n
abs-sub x y h k = abs-add x (neg_ℤ y) h (rw (abs_neg y) k)

pub abs-times : (x y : ℤ) → nat_abs (x *ℤ y) ≡ nat_abs x * nat_abs y
abs-times (pos a) (pos b) = refl
abs-times (pos a) (negsuc b) = abs_neg (pos (a * suc b))
abs-times (negsuc a) (pos b) = abs_neg (pos (suc a * b))
abs-times (negsuc a) (negsuc b) = refl

pub abs-mul : (x y : ℤ) {m n : ℕ} → nat_abs x ≤ m → nat_abs y ≤ n → nat_abs (x *ℤ y) ≤ m * n
abs-mul x y h k = rw (abs-times x y) (mul-le-mul h k)

mag-abs : (z : ℤ) → mag z ≤ nat_abs z
mag-abs (pos n) = omega arith
mag-abs (negsuc n) = omega arith

-- z fits w where its magnitude is at most n, and n is below half the width's power: `fits-abs w64 h tt`
pub fits-abs : (w : Width) {z : ℤ} {n : ℕ} → nat_abs z ≤ n → T (ltb n (2 ^ hbits w)) → SFits w z
fits-abs w {z} {n} h t = record { sfits = omega (arith, mag-abs z, ltb→lt n (2 ^ hbits w) t) }
