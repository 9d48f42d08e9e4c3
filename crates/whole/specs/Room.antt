-- What fits, for `search (needs, room)` at a need on signed numbers: from bounds `nat_abs x ≤ m` in the `requires`, a number, a sum, a difference, a product, a quotient, and a difference of two products fit the width, where a closed comparison says so.
use Rattle.std.specs.Prelude.{ℕ, ◌+◌, ◌*◌, ◌^◌, ◌≤◌, T, ltb, ◌≡◌, ℤ, pos, neg_ℤ, nat_abs, ◌+ℤ◌, ◌-ℤ◌, ◌*ℤ◌}
use Rattle.std.proofs.Common.{le_trans, arith, ltb→lt}
use Rattle.std.proofs.Math.IntN.{+ℤ_idl}
use Rattle.std.specs.Int.Signed.{quot_z}
use Rattle.std.specs.Int.{Width}
use mir.Val.{SFits, hbits}
use Rattle.whole.specs.Bound.{abs_neg, abs-add, abs-sub, abs-mul, fits-abs}
use Rattle.whole.specs.Half.{abs-quot}

module _ (w : Width) where
  pub fits_one : (x : ℤ) (m : ℕ) → nat_abs x ≤ m → T (ltb m (2 ^ hbits w)) → SFits w x
  fits_one x m h t = fits-abs w h t

  pub fits-add : (x y : ℤ) (m n : ℕ) → nat_abs x ≤ m → nat_abs y ≤ n → T (ltb (m + n) (2 ^ hbits w)) → SFits w (x +ℤ y)
  fits-add x y m n h i t = fits-abs w (abs-add x y h i) t

  pub fits_sub : (x y : ℤ) (m n : ℕ) → nat_abs x ≤ m → nat_abs y ≤ n → T (ltb (m + n) (2 ^ hbits w)) → SFits w (x -ℤ y)
  fits_sub x y m n h i t = fits-abs w (abs-sub x y h i) t

  -- `-x` is 0 - x, which `zero-sub` turns into this
  pub fits_neg : (x : ℤ) (m : ℕ) → nat_abs x ≤ m → T (ltb m (2 ^ hbits w)) → SFits w (neg_ℤ x)
  fits_neg x m h t = fits-abs w (rw (abs_neg x) h) t

  pub fits-mul : (x y : ℤ) (m n : ℕ) → nat_abs x ≤ m → nat_abs y ≤ n → T (ltb (m * n) (2 ^ hbits w)) → SFits w (x *ℤ y)
  fits-mul x y m n h i t = fits-abs w (abs-mul x y h i) t

  pub fits-quot : (x d : ℤ) (m : ℕ) → nat_abs x ≤ m → T (ltb m (2 ^ hbits w)) → SFits w (quot_z x d)
  fits-quot x d m h t = fits-abs w (le_trans (abs-quot x d) h) t

  pub fits-quot-add : (x y d : ℤ) (m n : ℕ) → nat_abs x ≤ m → nat_abs y ≤ n → T (ltb (m + n) (2 ^ hbits w)) → SFits w (quot_z (x +ℤ y) d)
  fits-quot-add x y d m n h i t = fits-abs w (le_trans (abs-quot (x +ℤ y) d) (abs-add x y h i)) t

  pub fits-cross : (x y z u : ℤ) (m n k l : ℕ) → nat_abs x ≤ m → nat_abs y ≤ n → nat_abs z ≤ k → nat_abs u ≤ l → T (ltb (m * n + k * l) (2 ^ hbits w)) → SFits w (x *ℤ y -ℤ z *ℤ u)
  fits-cross x y z u m n k l h i j g t = fits-abs w (abs-sub (x *ℤ y) (z *ℤ u) (abs-mul x y h i) (abs-mul z u j g)) t

pub zero-sub : (x : ℤ) → pos 0 -ℤ x ≡ neg_ℤ x
zero-sub x = +ℤ_idl (neg_ℤ x)

-- a difference of two numbers that are bounded
pub abs-sub-le : (x y : ℤ) (m n k : ℕ) → nat_abs x ≤ m → nat_abs y ≤ n → T (ltb (m + n) (k + 1)) → nat_abs (x -ℤ y) ≤ k
abs-sub-le x y m n k h i t = omega (arith, abs-sub x y h i, ltb→lt (m + n) (k + 1) t)

pub ruleset room = (fits_one, fits_neg, zero-sub, fits-add, fits_sub, fits-mul, fits-quot, fits-quot-add, fits-cross, abs-sub-le)
