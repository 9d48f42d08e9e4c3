-- Numbers written as digits, in the form in which the code writes them. Assumes nothing.
use Rattle.std.specs.Prelude.{◌≡◌, List, [], ◌∷◌, ◌++◌, ℕ, zero, suc, ◌+◌, ◌-◌, ◌*◌, ◌/◌, ◌%◌, ◌^◌, ◌≤◌, ◌<◌}
use Rattle.std.proofs.Common.{arith, refl, sym, ap, ◌∙◌, subst, pow-add}
use Rattle.std.proofs.Math.Nat.{pow-suc, div-div-eq-div-mul}
use Rattle.text.specs.Digits.{hex_digit, hex}
use Rattle.text.specs.Writing.{Wrote, wrote, writes, writes-append}

by-fours : (w : ℕ) → 2 ^ (4 * w) ≡ 16 ^ w
by-fours zero = refl
by-fours (suc w) = let e : 4 * suc w ≡ 4 * w + 4 = omega arith in rw (e, pow-add 2 (4 * w) 4, by-fours w, pow-suc 16 w)

-- a loop over the digits: w are left, z is what the whole loop leaves
hex-next : (v w d k : ℕ) (out : List ℕ) (y z : Wrote) → d ≡ hex_digit (v / 2 ^ (4 * w) % 16) → y ≡ writes (wrote k out) (d ∷ []) →
    writes (wrote k out) (hex (suc w) v) ≡ z → writes y (hex w v) ≡ z
unfolding hex writes
hex-next v w d k out y z p q inv = rw q (rw (← by-fours w, ← p) at inv)

pub hex-turn : (v w d k : ℕ) (out : List ℕ) (y z : Wrote) → zero < w → d ≡ hex_digit (v / 2 ^ (4 * (w - 1)) % 16) → y ≡ writes (wrote k out) (d ∷ []) →
    writes (wrote k out) (hex w v) ≡ z → writes y (hex (w - 1) v) ≡ z
hex-turn v w d k out y z h p q inv =
    let e : w ≡ suc (w - 1) = omega arith in
    hex-next v (w - 1) d k out y z p q (subst (λ (u : ℕ). writes (wrote k out) (hex u v) ≡ z) e inv)

pub hex-end : (v w k : ℕ) (out : List ℕ) (z : Wrote) → w ≤ 0 → writes (wrote k out) (hex w v) ≡ z → wrote k out ≡ z
unfolding hex writes
hex-end v w k out z h inv = let e : w ≡ 0 = omega arith in rw e at inv

-- ---- two digits at a time

pub hex-two : (v : ℕ) → hex 2 v ≡ hex_digit (v / 16 % 16) ∷ hex_digit (v % 16) ∷ []
unfolding hex
hex-two v = let e : v / 1 ≡ v = omega arith in rw e

hex-more : (v w : ℕ) → hex (2 * w + 2) v ≡ hex 2 (v / 2 ^ (8 * w)) ++ hex (2 * w) v
unfolding hex
hex-more v w =
    let e : 2 * w + 2 ≡ suc (suc (2 * w)) = omega arith in
    let f : 8 * w ≡ 4 * (2 * w) = omega arith in
    let a : v / 2 ^ (8 * w) ≡ v / 16 ^ (2 * w) = ap (λ (k : ℕ). v / k) (ap (λ (k : ℕ). 2 ^ k) f ∙ by-fours (2 * w)) in
    let q : v / 16 ^ (2 * w) / 16 ≡ v / 16 ^ suc (2 * w) = div-div-eq-div-mul v (16 ^ (2 * w)) 16 ∙ ap (λ (k : ℕ). v / k) (sym (pow-suc 16 (2 * w))) in
    let b : hex 2 (v / 2 ^ (8 * w)) ≡ hex_digit (v / 16 ^ suc (2 * w) % 16) ∷ hex_digit (v / 16 ^ (2 * w) % 16) ∷ [] =
    ap (hex 2) a ∙ hex-two (v / 16 ^ (2 * w)) ∙ ap (λ (k : ℕ). hex_digit (k % 16) ∷ hex_digit (v / 16 ^ (2 * w) % 16) ∷ []) q in
    ap (λ (k : ℕ). hex k v) e ∙ ap (λ (l : List ℕ). l ++ hex (2 * w) v) (sym b)

-- a loop over the digits by twos: w twos are left, z is what the whole loop leaves
pub twos-turn : (v w k : ℕ) (out : List ℕ) (y z : Wrote) → zero < w → y ≡ writes (wrote k out) (hex 2 (v / 2 ^ (8 * (w - 1)))) → writes (wrote k out) (hex (2 * w) v) ≡ z →
    writes y (hex (2 * (w - 1)) v) ≡ z
twos-turn v w k out y z h q inv =
    let e : 2 * w ≡ 2 * (w - 1) + 2 = omega arith in
    let i : writes (wrote k out) (hex 2 (v / 2 ^ (8 * (w - 1))) ++ hex (2 * (w - 1)) v) ≡ z = rw (e, hex-more v (w - 1)) at inv in
    rw q (sym (writes-append (wrote k out) (hex 2 (v / 2 ^ (8 * (w - 1)))) (hex (2 * (w - 1)) v)) ∙ i)
