-- Keys of places in range: x · 2^23 + y tells places apart, and a place from the middle of two others. Assumes nothing.
use Rattle.std.specs.Prelude.{List, [], ◌∷◌, ◌≡◌, ℕ, zero, suc, ◌≤◌, ℤ, pos, nat_abs, ◌+ℤ◌, ◌-ℤ◌, ◌*ℤ◌, get_or}
use Rattle.std.proofs.Common.{ap₂, ◌∙◌, arith}
use Rattle.whole.specs.Diff.{onℤ, sumℤ, mulℤ}
use Rattle.whole.specs.Bound.{absℤ, abs-add, abs-sub, abs-mul}
use Rattle.whole.specs.Ring.{K, ◌:+◌, ◌:-◌, ◌:*◌, ring6}
use Rattle.lists.specs.Lists.{All, nil, cons}
use Rattle.meaning.specs.declared.Place.{Place}
use Rattle.meaning.specs.declared.Node.{Node}
use Rattle.meaning.specs.Mesh.{Mesh, at, turn, origin}
use Rattle.meaning.specs.Lawful.{InRange, NodeInRange, Lawful}
use Rattle.border.specs.Signs.{equal-of-zero, zero-of-equal}
use Rattle.border.specs.Places.{place-eq}
use Rattle.border.specs.Under.{key}
use Rattle.border.specs.Clear.{steep}

-- of a lawful mesh every place is in range
pub place-range : (m : Mesh) → Lawful m → (k : ℕ) → InRange (at m k)
place-range m law k = go m.nodes k law.range
  where
    go : (l : List Node) (k : ℕ) → All NodeInRange l → InRange (get_or l k origin).place
    go [] k nil = record { x-near = omega arith; y-near = omega arith }
    go (a ∷ l) zero (cons h hs) = h.place_in
    go (a ∷ l) (suc k) (cons h hs) = go l k hs

-- how far two places in range are apart, along x and along y
module _ {A B : Place} (a : InRange A) (b : InRange B) where
  pub near-x : nat_abs (B.x -ℤ A.x) ≤ 2_097_152
  near-x = abs-sub B.x A.x b.x-near a.x-near

  pub near-y : nat_abs (B.y -ℤ A.y) ≤ 2_097_152
  near-y = abs-sub B.y A.y b.y-near a.y-near

small : (d e : ℤ) → nat_abs e ≤ 4194304 → pos 8388608 *ℤ d +ℤ e ≡ pos 0 → (d ≡ pos 0) × (e ≡ pos 0)
small d e h g =
    let z : d ≡ pos 0 = omega (arith, onℤ, mulℤ (pos 8388608) d, sumℤ (pos 8388608 *ℤ d) e, absℤ e) in
    (z, omega (arith, onℤ, mulℤ (pos 8388608) d, sumℤ (pos 8388608 *ℤ d) e))

-- a place with the key of the middle of two others stands there
pub steep-doubles : {P A B : Place} → InRange P → InRange A → InRange B → key steep P +ℤ key steep P ≡ key steep A +ℤ key steep B → (P.x +ℤ P.x ≡ A.x +ℤ B.x) × (P.y +ℤ P.y ≡ A.y +ℤ B.y)
steep-doubles {P} {A} {B} h i j e =
    let (x, y) = small ((P.x +ℤ P.x) -ℤ (A.x +ℤ B.x)) ((P.y +ℤ P.y) -ℤ (A.y +ℤ B.y)) (apart-near P.y A.y B.y h.y-near i.y-near j.y-near)
    (ring6 (λ p q a b c d. (
      K (pos 8388608) :* ((p :+ p) :- (a :+ c)) :+ ((q :+ q) :- (b :+ d)),
      ((K (pos 8388608) :* p :+ K (pos 1) :* q) :+ (K (pos 8388608) :* p :+ K (pos 1) :* q)) :- ((K (pos 8388608) :* a :+ K (pos 1) :* b) :+ (K (pos 8388608) :* c :+ K (pos 1) :* d)),
    ))
    P.x P.y A.x A.y B.x B.y tt ∙ zero-of-equal (key steep P +ℤ key steep P) (key steep A +ℤ key steep B) e) in
    (equal-of-zero (P.x +ℤ P.x) (A.x +ℤ B.x) x, equal-of-zero (P.y +ℤ P.y) (A.y +ℤ B.y) y)
  where
    -- 2v − (a + b), of numbers in the range
    apart-near : (v a b : ℤ) → nat_abs v ≤ 1048576 → nat_abs a ≤ 1048576 → nat_abs b ≤ 1048576 → nat_abs ((v +ℤ v) -ℤ (a +ℤ b)) ≤ 4194304
    apart-near v a b h i j = omega (arith, abs-sub (v +ℤ v) (a +ℤ b) (abs-add v v h h) (abs-add a b i j))

-- different places in range have different keys
pub steep-apart : {A B : Place} → InRange A → InRange B → key steep A ≡ key steep B → A ≡ B
steep-apart {A} {B} a b h = let (x, y) = steep-doubles a b b (ap₂ ◌+ℤ◌ h h) in place-eq (half A.x B.x x) (half A.y B.y y)
  where
    half : (p q : ℤ) → p +ℤ p ≡ q +ℤ q → p ≡ q
    half p q e = omega (arith, onℤ, sumℤ p p, sumℤ q q)

-- ---- keys and turns are small

pub turn_small : {A B C : Place} → InRange A → InRange B → InRange C → nat_abs (turn A B C) ≤ 8_796_093_022_208
turn_small {A} {B} {C} a b c =
    abs-sub ((B.x -ℤ A.x) *ℤ (C.y -ℤ A.y)) ((C.x -ℤ A.x) *ℤ (B.y -ℤ A.y))
    (abs-mul (B.x -ℤ A.x) (C.y -ℤ A.y) (near-x a b) (near-y a c)) (abs-mul (C.x -ℤ A.x) (B.y -ℤ A.y) (near-x a c) (near-y a b))

pub key-small : {A : Place} → InRange A → nat_abs (key steep A) ≤ 8_796_094_070_784
key-small {A} a = abs-add (pos 8_388_608 *ℤ A.x) (pos 1 *ℤ A.y) (abs-mul (pos 8_388_608) A.x {m = 8_388_608} (omega arith) a.x-near) (abs-mul (pos 1) A.y {m = 1} (omega arith) a.y-near)
