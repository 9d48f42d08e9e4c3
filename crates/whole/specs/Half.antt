-- Halving in ℤ, as the machine does it: `quot_z z 2` rounds toward zero, `rem_z z 2` has z's sign; z is even where |z| is.
use Rattle.std.specs.Prelude.{◌≡◌, refl, ℕ, zero, suc, ◌+◌, ◌*◌, ◌-◌, ◌^◌, ◌<◌, ◌≤◌, ◌/◌, ◌%◌, ℤ, pos, negsuc, neg_ℤ, nat_abs, ◌-ℤ◌, ◌*ℤ◌}
use Rattle.std.proofs.Common.{ap, div-le_self, arith, lit≤}
use Rattle.std.specs.Int.Signed.{quot_z, rem_z}
use Rattle.std.specs.Int.{Width, w8, w16, w32, w64, w128}
use mir.Val.{bits, of_z}
use Rattle.whole.specs.Bound.{abs_neg}

-- a quotient is no larger
pub abs-quot : (z d : ℤ) → nat_abs (quot_z z d) ≤ nat_abs z
abs-quot (pos a) (pos b) = div-le_self a b
abs-quot (pos a) (negsuc b) = rw (abs_neg (pos (a / suc b))) (div-le_self a (suc b))
abs-quot (negsuc a) (pos b) = rw (abs_neg (pos (suc a / b))) (div-le_self (suc a) b)
abs-quot (negsuc a) (negsuc b) = div-le_self (suc a) (suc b)

-- the halves of an even number
neg-two : (n k : ℕ) → 2 * k ≡ suc n → pos 2 *ℤ neg_ℤ (pos k) ≡ negsuc n
neg-two n zero e = absurd (omega arith)
neg-two n (suc j) e = rw e

pub half-even : (z : ℤ) → nat_abs z % 2 ≡ 0 → pos 2 *ℤ quot_z z (pos 2) ≡ z
half-even (pos n) e = ap pos (omega arith)
half-even (negsuc n) e = neg-two n (suc n / 2) (omega arith)

-- a number below 0, less 1, has for its half what its own half is, rounded down
neg-suc : (k j : ℕ) → k ≡ suc j → neg_ℤ (pos k) ≡ negsuc j
neg-suc k j e = rw e

pub half-below : (n : ℕ) → quot_z (negsuc n -ℤ pos 1) (pos 2) ≡ negsuc (n / 2)
half-below n = neg-suc (suc (suc (n + 0)) / 2) (n / 2) (omega arith)

-- the machine's test, at any width
two-bits : (w : Width) → 2 ≤ 2 ^ bits w
two-bits w8 = lit≤ tt
two-bits w16 = lit≤ tt
two-bits w32 = lit≤ tt
two-bits w64 = lit≤ tt
two-bits w128 = lit≤ tt

odd-bits : (w : Width) (r : ℕ) → r < 2 → of_z w (neg_ℤ (pos r)) ≡ 0 → r ≡ 0
odd-bits w zero h e = refl
odd-bits w (suc r) h e = go (2 ^ bits w) (two-bits w) e
  where
    go : (n : ℕ) → 2 ≤ n → n - suc r ≡ 0 → suc r ≡ 0
    go n k f = omega arith

pub rem-even : (w : Width) (z : ℤ) → of_z w (rem_z z (pos 2)) ≡ 0 → nat_abs z % 2 ≡ 0
rem-even w (pos n) e = e
rem-even w (negsuc n) e = odd-bits w (suc n % 2) (omega arith) e

pub even-rem : (w : Width) (z : ℤ) → nat_abs z % 2 ≡ 0 → of_z w (rem_z z (pos 2)) ≡ 0
even-rem w (pos n) e = e
even-rem w (negsuc n) e = rw e
