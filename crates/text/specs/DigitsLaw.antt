-- Digits and numbers in the form in which the code reads them. Assumes nothing.
use Rattle.std.specs.Prelude.{◌≡◌, Bool, true, false, ◌&&◌, List, [], ◌∷◌, ℕ, suc, ltb, ◌+◌, ◌-◌, ◌*◌, ◌^◌, ◌≤◌, ◌<◌, ℤ, pos, negsuc, get_or}
use Rattle.std.proofs.Common.{refl, ap, ◌∙◌, add-one, Fits, SFits, to_z, of_z, ltb-true, ltb-false}
use Rattle.std.proofs.Math.Nat.{pow-suc, pow-le-pow_right}
use Rattle.std.specs.List.{list_all}
use Rattle.lists.specs.Lists.{all}
use native.Mathlib.Omega.{arith}
use borrow.Author.Tests.{lt-ltb, le-ltb, le-leb, lt-leb}
use mir.Syntax.{Width, w16, w32}
use mir.Val.{bits, hbits}
use Rattle.std.proofs.Math.Facts.{to_z_pos, to_z-neg, to_z-of_z, sfits_to_z}
use Rattle.meaning.specs.declared.Correction.{Correction}
use Rattle.meaning.specs.Mesh.{place, correction, node, tri}
use Rattle.text.specs.Digits.{worth, number, signed, unsigned}
use Rattle.text.specs.Lines.{correction_in, node_in, row_in}

-- ---- one digit

module _ (b : ℕ) where
  pub worth-low : b < 48 → 0 ≡ worth b
  unfolding worth
  worth-low h = rw (lt-ltb b 48 h)

  pub worth-digit : 48 ≤ b → b ≤ 57 → b - 48 ≡ worth b
  unfolding worth
  worth-digit h k = rw (le-ltb b 48 h, le-leb b 57 k)

  pub worth-between : 57 < b → b < 97 → 0 ≡ worth b
  unfolding worth
  worth-between h k = rw (le-ltb b 48 (omega arith), lt-leb b 57 h, lt-ltb b 97 k)

  pub worth-letter : 97 ≤ b → b ≤ 102 → b - 87 ≡ worth b
  unfolding worth
  worth-letter h k = rw (le-ltb b 48 (omega arith), lt-leb b 57 (omega arith), le-ltb b 97 h, le-leb b 102 k)

  pub worth-high : 102 < b → 0 ≡ worth b
  unfolding worth
  worth-high h = rw (le-ltb b 48 (omega arith), lt-leb b 57 (omega arith), le-ltb b 97 (omega arith), lt-leb b 102 h)

pub ruleset worths = (worth-low, worth-digit, worth-between, worth-letter, worth-high)

-- ---- numbers

pub number-none : (text : List ℕ) (k : ℕ) → 0 ≡ number 0 text k
unfolding number
number-none text k = refl

pub number-more : (text : List ℕ) (k w x y : ℕ) → x ≡ number w text k → y ≡ worth (get_or text (k + w) 0) → 16 * x + y ≡ number (w + 1) text k
unfolding number
number-more text k w x y a b = rw (add-one, a, b)

-- the bounds of a loop over the digits: x is what w of them are worth, y one more
module _ (w x y : ℕ) (few : w < 8) (a : x < 16 ^ w) where
  pub digits-next : y < 16 → 16 * x + y < 16 ^ (w + 1)
  digits-next b = rw (add-one, pow-suc 16 w) (omega arith)

  pub digits-fit : y < 16 → 16 * x + y < 4294967296
  digits-fit b =
      let h : w + 1 ≤ 8 = omega arith in
      let m : 16 ^ (w + 1) ≤ 16 ^ 8 = pow-le-pow_right {n = 16} (omega arith) h in
      let n = digits-next b in
      omega arith

pub all-is : (f : ℕ → Bool) (l : List ℕ) → list_all f l ≡ all f l
all-is f [] = refl
all-is f (x ∷ l) = ap (λ b. f x && b) (all-is f l)

-- ---- two's complement: 8 digits, 4 digits, and the test of a sign

below-zero : (w : Width) (v k : ℕ) → v ≡ 2 ^ bits w - suc k → k < 2 ^ hbits w → to_z w v ≡ negsuc k
below-zero w v k e h = rw e (to_z-neg w k h)

signed8-by : (v : ℕ) → v < 4294967296 → (b : Bool) → ltb v 2147483648 ≡ b → to_z w32 v ≡ signed 8 v
unfolding signed
signed8-by v f true e = rw e
signed8-by v f false e =
    let h : 2147483648 ≤ v = ltb-false v 2147483648 e in
    below-zero w32 v (4294967295 - v) (omega arith) (omega arith) ∙ rw e

-- four digits, as a number of 16 bits that is widened
signed4-by : (v : ℕ) → v < 65536 → (b : Bool) → ltb v 32768 ≡ b → to_z w32 (of_z w32 (to_z w16 v)) ≡ signed 4 v
unfolding signed
signed4-by v f true e = let h : v < 32768 = ltb-true v 32768 e in rw (to_z_pos w16 h, e) (to_z_pos w32 (omega arith))
signed4-by v f false e =
    let h : 32768 ≤ v = ltb-false v 32768 e in
    let d : to_z w16 v ≡ negsuc (65535 - v) = below-zero w16 v (65535 - v) (omega arith) (omega arith) in
    let o : to_z w32 (of_z w32 (negsuc (65535 - v))) ≡ negsuc (65535 - v) = to_z-of_z {w = w32} (record { sfits = omega arith }) in
    rw (d, o, e)

pub signed4-is : (q r : ℤ) (v : ℕ) → q ≡ to_z w16 v → r ≡ to_z w16 (of_z w16 q) → v < 65536 → to_z w32 (of_z w32 r) ≡ signed 4 v
signed4-is q r v e g f = rw (g, e, to_z-of_z (sfits_to_z (record { fits = f }))) (signed4-by v f (ltb v 32768) refl)

pub signed8-is : (r : ℤ) (v : ℕ) → r ≡ to_z w32 v → Fits w32 v → to_z w32 (of_z w32 r) ≡ signed 8 v
signed8-is r v e f = rw (e, to_z-of_z (sfits_to_z f)) (signed8-by v f.fits (ltb v 2147483648) refl)

pub unsigned-is : (z : ℤ) → SFits w32 z → of_z w32 (to_z w32 (of_z w32 z)) ≡ unsigned z
unfolding unsigned
unsigned-is (pos n) f = rw (to_z-of_z f)
unsigned-is (negsuc n) f = rw (to_z-of_z f) (let e : 4294967296 - suc n ≡ 4294967295 - n = omega arith in e)

-- ---- the fields of frames 01 and 02

module _ (fields : List ℕ) where
  pub correction-read : (i : ℕ) (x y : ℤ) (v w : ℕ) → x ≡ signed 4 v → v ≡ number 4 fields (4 * i) → y ≡ signed 4 w → w ≡ number 4 fields (4 * (i + 1)) →
      correction x y ≡ correction_in fields i
  unfolding correction_in
  correction-read i x y v w a b c d = rw (a, b, c, d)

  pub node-fields : (x y : ℤ) (c : Correction) (v w : ℕ) → x ≡ signed 8 v → v ≡ number 8 fields 0 → y ≡ signed 8 w → w ≡ number 8 fields 8 → c ≡ correction_in fields 4 →
      node (place x y) c ≡ node_in fields
  unfolding node_in
  node-fields x y e v w a b c d f = rw (a, b, c, d, f)

  pub row_read : (p q r : ℕ) → p ≡ number 4 fields 0 → q ≡ number 4 fields 4 → r ≡ number 4 fields 8 → tri p q r ≡ row_in fields
  unfolding row_in
  row_read p q r a b c = rw (a, b, c)
