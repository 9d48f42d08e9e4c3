-- Laws of single steps, which the check finds alone today. Assumes nothing.
use Rattle.std.specs.Prelude.{◌≡◌, true, false, List, [], ◌∷◌, ◌++◌, ℕ, suc, ◌+◌, ◌-◌, ◌*◌, ◌/◌, ◌%◌, ◌≤◌, ◌<◌, T, ℤ, pos, negsuc, nat_abs, length, get_or, drop}
use Rattle.std.proofs.Common.{sym, ◌∙◌, add-one, Fits, SFits, to_z, of_z, drop_of_length-le, drop-cons}
use native.Mathlib.Omega.{arith}
use borrow.Author.Tests.{lt-ltb, le-ltb}
use Rattle.std.proofs.Math.Dec.{leb-zero}
use Rattle.std.specs.Int.Signed.{le_z, non_neg}
use mir.Syntax.{w32}
use Rattle.std.proofs.Math.Facts.{to_z_pos, to_z-neg}
use Rattle.lists.specs.ListsLaw.{clash}
use Rattle.text.specs.Digits.{worth, number, signed, unsigned, hex_digit, hex}
use Rattle.text.specs.HexLaw.{hex-two}
use Rattle.text.specs.Writing.{Wrote, wrote, writes, then}

-- ---- numbers

module _ (text : List ℕ) (k x y : ℕ) where
  pub two_is : x ≡ worth (get_or text k 0) → y ≡ worth (get_or text (k + 1) 0) → 16 * x + y ≡ number 2 text k
  unfolding number
  two_is a b = let e : k + 0 ≡ k = omega arith in rw (a, b, e) (omega arith)

  pub four_is : x ≡ number 2 text k → y ≡ number 2 text (k + 2) → 256 * x + y ≡ number 4 text k
  unfolding number
  four_is a b =
      let e : k + 0 ≡ k = omega arith in
      let f : k + 2 + 0 ≡ k + 2 = omega arith in
      let g : k + 2 + 1 ≡ k + 3 = omega arith in
      rw (a, b, e, f, g) (omega arith)

  pub eight_is : x ≡ number 4 text k → y ≡ number 4 text (k + 4) → 65536 * x + y ≡ number 8 text k
  unfolding number
  eight_is a b =
      let e : k + 0 ≡ k = omega arith in
      let f : k + 4 + 0 ≡ k + 4 = omega arith in
      let g : k + 4 + 1 ≡ k + 5 = omega arith in
      let h : k + 4 + 2 ≡ k + 6 = omega arith in
      let i : k + 4 + 3 ≡ k + 7 = omega arith in
      rw (a, b, e, f, g, h, i) (omega arith)

pub ruleset numbers = (two_is, four_is, eight_is)

-- ---- two's complement: 8 digits, 4 digits, and the test of a sign

below-zero : (n : ℕ) → n < 2147483648 → to_z w32 (4294967295 - n) ≡ negsuc n
below-zero n h = let e : 4294967295 - n ≡ 4294967296 - suc n = omega arith in rw e (to_z-neg w32 n h)

module _ (v : ℕ) where
  pub signed_low : v < 2147483648 → to_z w32 v ≡ signed 8 v
  unfolding signed
  signed_low h = rw (lt-ltb v 2147483648 h)

  pub signed_high : 2147483648 ≤ v → Fits w32 v → to_z w32 (4294967295 - (4294967295 - v)) ≡ signed 8 v
  unfolding signed
  signed_high h f =
      let g : v < 4294967296 = f.fits in
      rw (le-ltb v 2147483648 h) (below-zero (4294967295 - v) (omega arith))

  pub signed4-low : v < 32768 → to_z w32 v ≡ signed 4 v
  unfolding signed
  signed4-low h = rw (lt-ltb v 32768 h) (to_z_pos w32 (omega arith))

  pub signed4-high : 32768 ≤ v → v < 65536 → to_z w32 (4294967295 - (65535 - v)) ≡ signed 4 v
  unfolding signed
  signed4-high h f = rw (le-ltb v 32768 h) (below-zero (65535 - v) (omega arith))

-- z is not below 0; it is below 0
pub unsigned-fits : (z : ℤ) → SFits w32 z → le_z (pos 0) (to_z w32 (of_z w32 z)) ≡ true → T (non_neg (to_z w32 (of_z w32 z))) × Fits w32 (nat_abs (to_z w32 (of_z w32 z)))
unsigned-fits (pos n) f t = let h : n < 2147483648 = f.sfits in rw (to_z_pos w32 h) (tt, record { fits = omega arith })
unsigned-fits (negsuc n) f t = clash (sym (rw (to_z-neg w32 n f.sfits) at t))

pub unsigned-low : (z : ℤ) → SFits w32 z → le_z (pos 0) (to_z w32 (of_z w32 z)) ≡ true → nat_abs (to_z w32 (of_z w32 z)) ≡ unsigned z
unfolding unsigned
unsigned-low (pos n) f t = let h : n < 2147483648 = f.sfits in rw (to_z_pos w32 h)
unsigned-low (negsuc n) f t = clash (sym (rw (to_z-neg w32 n f.sfits) at t))

bits-turned : (n : ℕ) → n < 2147483648 → to_z w32 (4294967295 - (4294967296 - suc n)) ≡ pos n
bits-turned n h =
    let e : 4294967295 - (4294967296 - suc n) ≡ n = omega arith in
    rw e (to_z_pos w32 h)

pub unsigned-turned : (z : ℤ) → SFits w32 z → le_z (pos 0) (to_z w32 (of_z w32 z)) ≡ false →
    T (non_neg (to_z w32 (4294967295 - of_z w32 z))) × Fits w32 (nat_abs (to_z w32 (4294967295 - of_z w32 z)))
unsigned-turned (pos n) f t = let h : n < 2147483648 = f.sfits in clash (sym (leb-zero n) ∙ (rw (to_z_pos w32 h) at t))
unsigned-turned (negsuc n) f t = let h : n < 2147483648 = f.sfits in rw (bits-turned n h) (tt, record { fits = omega arith })

pub unsigned-high : (z : ℤ) → SFits w32 z → le_z (pos 0) (to_z w32 (of_z w32 z)) ≡ false → 4294967295 - nat_abs (to_z w32 (4294967295 - of_z w32 z)) ≡ unsigned z
unfolding unsigned
unsigned-high (pos n) f t = let h : n < 2147483648 = f.sfits in clash (sym (leb-zero n) ∙ (rw (to_z_pos w32 h) at t))
unsigned-high (negsuc n) f t = let h : n < 2147483648 = f.sfits in rw (bits-turned n h)

-- ---- numbers written as digits

pub digit_low : (d : ℕ) → d < 10 → 48 + d ≡ hex_digit d
unfolding hex_digit
digit_low d h = rw (lt-ltb d 10 h)

pub digit-high : (d : ℕ) → 10 ≤ d → 87 + d ≡ hex_digit d
unfolding hex_digit
digit-high d h = rw (le-ltb d 10 h)

hex-four : (v : ℕ) → hex 4 v ≡ hex 2 (v / 256) ++ hex 2 v
unfolding hex
hex-four v =
    let e : v / 256 / 16 ≡ v / 4096 = omega arith in
    let f : v / 256 / 1 ≡ v / 256 = omega arith in
    rw (e, f)

hex-eight : (v : ℕ) → hex 8 v ≡ hex 4 (v / 65536) ++ hex 4 v
unfolding hex
hex-eight v =
    let e : v / 65536 / 4096 ≡ v / 268435456 = omega arith in
    let f : v / 65536 / 256 ≡ v / 16777216 = omega arith in
    let g : v / 65536 / 16 ≡ v / 1048576 = omega arith in
    let h : v / 65536 / 1 ≡ v / 65536 = omega arith in
    rw (e, f, g, h)

module _ (w x y : Wrote) (v : ℕ) where
  pub hex2-put : (d e : ℕ) → d ≡ hex_digit (v / 16 % 16) → e ≡ hex_digit (v % 16) → x ≡ writes w (d ∷ []) → y ≡ writes x (e ∷ []) → y ≡ writes w (hex 2 v)
  hex2-put d e p q a b = rw (hex-two v, ← p, ← q) (then w x y (d ∷ []) (e ∷ []) a b)

  pub hex4-put : x ≡ writes w (hex 2 (v / 256)) → y ≡ writes x (hex 2 v) → y ≡ writes w (hex 4 v)
  hex4-put a b = rw (hex-four v) (then w x y (hex 2 (v / 256)) (hex 2 v) a b)

  pub hex8-put : x ≡ writes w (hex 4 (v / 65536)) → y ≡ writes x (hex 4 v) → y ≡ writes w (hex 8 v)
  hex8-put a b = rw (hex-eight v) (then w x y (hex 4 (v / 65536)) (hex 4 v) a b)

-- ---- a text put into a buffer

-- a loop over the bytes of a text: w is what the whole loop leaves
module _ (text : List ℕ) (k i : ℕ) (out : List ℕ) (w : Wrote) (inv : writes (wrote k out) (drop i text) ≡ w) where
  pub text-turn : (y : Wrote) → i < length text → y ≡ writes (wrote k out) (get_or text i 0 ∷ []) → writes y (drop (i + 1) text) ≡ w
  unfolding writes
  text-turn y h e = rw (e, add-one i) (rw (drop-cons text i 0 h) at inv)

  pub text-end : length text ≤ i → wrote k out ≡ w
  unfolding writes
  text-end h = rw (drop_of_length-le text h) at inv
