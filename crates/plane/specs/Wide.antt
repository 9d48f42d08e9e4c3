-- 32-bit numbers in 64 bits: they, their sums and their differences fit, and sums of two products of small ones; equal bits are equal numbers. Assumes nothing.
use Rattle.std.specs.Prelude.{◌≡◌, refl, Bool, true, false, ◌&&◌, ℕ, ◌+◌, ◌*◌, ◌^◌, ◌≤◌, T, eqb, ltb, ℤ, nat_abs, ◌+ℤ◌, ◌*ℤ◌}
use Rattle.std.proofs.Common.{sym, ap, ◌∙◌, arith, eqb-true}
use Rattle.std.proofs.lemmas.Bool.{eqb-false}
use Rattle.std.specs.Int.Signed.{le_z, nat_abs-le}
use Rattle.std.specs.Int.{w32, w64}
use mir.Val.{SFits, hbits, of_z}
use Rattle.whole.specs.Bound.{abs-add, abs-mul, fits-abs}
use Rattle.whole.specs.Diff.{onℤ}
use Rattle.whole.specs.Tests.{tests, of_z-inj}

pub fits-wide : (z : ℤ) → SFits w32 z → SFits w64 z
fits-wide z h = record { sfits = omega (arith, h.sfits) }

pub wide-abs : (z : ℤ) → SFits w32 z → nat_abs z ≤ 2_147_483_648
wide-abs z h = nat_abs-le z h.sfits

pub wide-sum : (a b : ℤ) → SFits w32 a → SFits w32 b → SFits w64 (a +ℤ b)
wide-sum a b f g = fits-abs w64 (abs-add a b (wide-abs a f) (wide-abs b g)) tt

pub fits-dot : (x y z u : ℤ) (m n k l : ℕ) → nat_abs x ≤ m → nat_abs y ≤ n → nat_abs z ≤ k → nat_abs u ≤ l → T (ltb (m * n + k * l) (2 ^ hbits w64)) → SFits w64 (x *ℤ y +ℤ z *ℤ u)
fits-dot x y z u m n k l h i j g t = fits-abs w64 (abs-add (x *ℤ y) (z *ℤ u) (abs-mul x y h i) (abs-mul z u j g)) t

same-yes : (a b : ℤ) → a ≡ b → le_z a b && le_z b a ≡ true
same-yes a b e =
    let p : le_z a b ≡ true = omega (arith, onℤ, tests) in
    let q : le_z b a ≡ true = omega (arith, onℤ, tests) in
    rw (p, q)

both : (x y : Bool) → x && y ≡ true → (x ≡ true) × (y ≡ true)
both true y e = (refl, e)
both false y e = (e, absurd (let z : ◌≡◌ {A = ℕ} 0 1 = cc in omega arith))

same-eq : (a b : ℤ) → le_z a b && le_z b a ≡ true → a ≡ b
same-eq a b e =
    let h = both (le_z a b) (le_z b a) e in
    let p = h.0 in
    let q = h.1 in
    omega (arith, onℤ, tests)

pub same_bits : (a b : ℤ) → SFits w64 a → SFits w64 b → eqb (of_z w64 a) (of_z w64 b) ≡ le_z a b && le_z b a
same_bits a b f g = go (eqb (of_z w64 a) (of_z w64 b)) (le_z a b && le_z b a) refl refl
  where
    go : (x y : Bool) → eqb (of_z w64 a) (of_z w64 b) ≡ x → le_z a b && le_z b a ≡ y → x ≡ y
    go true y e h = sym (same-yes a b (of_z-inj f g (eqb-true (of_z w64 a) (of_z w64 b) e))) ∙ h
    go false true e h = absurd (eqb-false (of_z w64 a) (of_z w64 b) e (ap (of_z w64) (same-eq a b h)))
    go false false e h = refl
