-- A place lies strictly inside an edge exactly if it is a mean of the ends with weights above 0. Assumes nothing.
use Rattle.std.specs.Prelude.{◌≡◌, refl, ◌⊎◌, ◌↔◌, ◌≢◌, ℕ, ◌+◌, ◌<◌, ℤ, pos, negsuc, ◌+ℤ◌, ◌-ℤ◌, ◌*ℤ◌, ◌≤ℤ◌, ◌<ℤ◌}
use Rattle.std.proofs.Common.{sym, ap, ◌∙◌, inl, inr, arith}
use Rattle.whole.specs.Diff.{onℤ, sumℤ, subℤ}
use Rattle.whole.specs.Ring.{K, ◌:+◌, ◌:-◌, ◌:*◌, ring4, ring8, combine₁, combine₂}
use Rattle.whole.specs.Order.{lt-or-le, positive-times, nonneg-square, square-none}
use Rattle.meaning.specs.declared.Place.{Place}
use Rattle.meaning.specs.Mesh.{turn}
use Rattle.meaning.specs.Proper.{StrictlyInside}
use Rattle.laws.specs.Area.{turn_expr}
use Rattle.proper.specs.OnLine.{along, len, along_expr, above-of-mul, zero-of-mul, inside-of-along, along-of-inside, spread-x, spread-y}

-- (α + β) P = α A + β B
pub record Between (A B P : Place) : Type 0 where
  pub α : ℕ
  pub β : ℕ
  pub α-above : 0 < α
  pub β-above : 0 < β
  pub on-x : pos (α + β) *ℤ P.x ≡ pos α *ℤ A.x +ℤ pos β *ℤ B.x
  pub on-y : pos (α + β) *ℤ P.y ≡ pos α *ℤ A.y +ℤ pos β *ℤ B.y

-- what is above 0 is a natural number above 0
pub as-nat : (z : ℤ) → pos 0 <ℤ z → (k : ℕ) × (0 < k) × (z ≡ pos k)
as-nat (pos k) h = (k, omega (arith, onℤ), refl)
as-nat (negsuc k) h = absurd (omega (arith, onℤ))

module _ (A B P : Place) (apart : pos 0 <ℤ len A B) where
  pub inside-between : StrictlyInside A B P → Between A B P
  inside-between s =
      let h = along-of-inside A B P s apart in
      let d = subℤ (len A B) (along A B P) in
      let a = as-nat (len A B -ℤ along A B P) (omega (arith, onℤ, h.1)) in
      let b = as-nat (along A B P) h.0 in
      let e : len A B ≡ pos (a.0 + b.0) = (let ea = a.2 in let eb = b.2 in omega (arith, onℤ)) in
      record {
        α = a.0;
        β = b.0;
        α-above = a.1;
        β-above = b.1;
        on-x = ap (λ z. z *ℤ P.x) (sym e) ∙ spread-x A B P s.on_line apart ∙ (λ i. a.2 i *ℤ A.x +ℤ b.2 i *ℤ B.x);
        on-y = ap (λ z. z *ℤ P.y) (sym e) ∙ spread-y A B P s.on_line apart ∙ (λ i. a.2 i *ℤ A.y +ℤ b.2 i *ℤ B.y);
      }

  pub between-inside : Between A B P → StrictlyInside A B P
  between-inside w = inside-of-along A B P flat apart past near
    where
      weight : pos 0 <ℤ pos (w.α + w.β)
      weight = omega (arith, onℤ, w.α-above)

      flat : turn A B P ≡ pos 0
      flat = zero-of-mul (pos (w.α + w.β)) (turn A B P) weight
          (combine₂ (A.y -ℤ B.y) (B.x -ℤ A.x) w.on-x w.on-y
          (ring8 (λ a b c d e f s t. ((s :+ t) :* turn_expr a b c d e f :- K (pos 0), (b :- d) :* ((s :+ t) :* e :- (s :* a :+ t :* c)) :+ (c :- a) :* ((s :+ t) :* f :- (s :* b :+ t :* d))))
          A.x A.y B.x B.y P.x P.y (pos w.α) (pos w.β) tt))

      far : pos (w.α + w.β) *ℤ along A B P ≡ pos w.β *ℤ len A B
      far = combine₂ (B.x -ℤ A.x) (B.y -ℤ A.y) w.on-x w.on-y
          (ring8 (λ a b c d e f s t. ((s :+ t) :* along_expr a b c d e f :- t :* along_expr a b c d c d, (c :- a) :* ((s :+ t) :* e :- (s :* a :+ t :* c)) :+ (d :- b) :* ((s :+ t) :* f :- (s :* b :+ t :* d))))
          A.x A.y B.x B.y P.x P.y (pos w.α) (pos w.β) tt)

      past : pos 0 <ℤ along A B P
      past = above-of-mul (pos (w.α + w.β)) (along A B P) weight (rw far (positive-times (pos w.β) (len A B) (omega (arith, onℤ, w.β-above)) apart))

      rest : pos (w.α + w.β) *ℤ (len A B -ℤ along A B P) ≡ pos w.α *ℤ len A B
      rest = combine₁ (pos 0 -ℤ pos 1) far
          (ring4 (λ s t l z. ((s :+ t) :* (l :- z) :- s :* l, (K (pos 0) :- K (pos 1)) :* ((s :+ t) :* z :- t :* l))) (pos w.α) (pos w.β) (len A B) (along A B P) tt)

      near : along A B P <ℤ len A B
      near = omega (
        arith,
        onℤ,
        subℤ (len A B) (along A B P),
        above-of-mul (pos (w.α + w.β)) (len A B -ℤ along A B P) weight (rw rest (positive-times (pos w.α) (len A B) (omega (arith, onℤ, w.α-above)) apart)),
      )

-- two places are apart
len-differ : (A B : Place) → A ≢ B → pos 0 <ℤ len A B
len-differ A B n = go (lt-or-le (pos 0) (len A B))
  where
    same : (a b : ℤ) → b -ℤ a ≡ pos 0 → a ≡ b
    same a b e = omega (arith, onℤ, subℤ b a)

    go : (pos 0 <ℤ len A B) ⊎ (len A B ≤ℤ pos 0) → pos 0 <ℤ len A B
    go (inl l) = l
    go (inr l) =
        let u = B.x -ℤ A.x in
        let v = B.y -ℤ A.y in
        let s = sumℤ (u *ℤ u) (v *ℤ v) in
        let p = same A.x B.x (square-none u (omega (arith, onℤ, nonneg-square v))) in
        let q = same A.y B.y (square-none v (omega (arith, onℤ, nonneg-square u))) in
        absurd (n (λ i. record { x = p i; y = q i }))

-- A PLACE LIES STRICTLY INSIDE AN EDGE EXACTLY IF IT IS A MEAN OF THE ENDS WITH WEIGHTS ABOVE 0
pub strictly-inside-is : (A B P : Place) → A ≢ B → StrictlyInside A B P ↔ Between A B P
strictly-inside-is A B P n = (inside-between A B P (len-differ A B n), between-inside A B P (len-differ A B n))
