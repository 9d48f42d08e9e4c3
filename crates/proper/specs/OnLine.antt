-- Places on the line through A and B, by how far along it they are: between A and B, at A, or beyond. Assumes nothing.
use Rattle.std.specs.Prelude.{◌≡◌, ◌⊎◌, ℤ, pos, ◌+ℤ◌, ◌-ℤ◌, ◌*ℤ◌, ◌≤ℤ◌, ◌<ℤ◌}
use Rattle.std.proofs.Common.{sym, subst, ◌∙◌, inl, inr, arith}
use Rattle.std.proofs.Math.IntN.{*ℤ_comm}
use Rattle.whole.specs.Diff.{onℤ, sumℤ, subℤ, mulℤ}
use Rattle.whole.specs.Ring.{Expr, K, ◌:+◌, ◌:-◌, ◌:*◌, ring4, ring6, ring8, combine₁}
use Rattle.whole.specs.Order.{lt-or-le, positive-times, nonneg-square, scale-le, scale-lt, times-cancel, unscale-lt}
use Rattle.meaning.specs.declared.Place.{Place}
use Rattle.meaning.specs.Mesh.{turn}
use Rattle.meaning.specs.Proper.{facing, StrictlyInside}
use Rattle.laws.specs.Area.{turn_expr}

-- (P − A)·(B − A): 0 at A, and `len A B`, the square of the distance, at B
abbrev pub along : Place → Place → Place → ℤ
along A B P = (P.x -ℤ A.x) *ℤ (B.x -ℤ A.x) +ℤ (P.y -ℤ A.y) *ℤ (B.y -ℤ A.y)

abbrev pub len : Place → Place → ℤ
len A B = along A B B

-- ---- as expressions of the solver

abbrev pub along_expr : Expr → Expr → Expr → Expr → Expr → Expr → Expr
along_expr ax ay bx by px py = (px :- ax) :* (bx :- ax) :+ (py :- ay) :* (by :- ay)

abbrev pub facing_expr : Expr → Expr → Expr → Expr → Expr → Expr → Expr
facing_expr ax ay bx by px py = (ax :- px) :* (bx :- px) :+ (ay :- py) :* (by :- py)

-- ---- signs

below-of-mul : (c a : ℤ) → pos 0 <ℤ c → (c *ℤ a) <ℤ pos 0 → a <ℤ pos 0
below-of-mul c a h i = unscale-lt c a (pos 0) h (omega (arith, onℤ, *ℤ_comm a c, mulℤ (pos 0) c))

pub above-of-mul : (c a : ℤ) → pos 0 <ℤ c → pos 0 <ℤ (c *ℤ a) → pos 0 <ℤ a
above-of-mul c a h i = unscale-lt c (pos 0) a h (omega (arith, onℤ, *ℤ_comm a c, mulℤ (pos 0) c))

pub zero-of-mul : (c a : ℤ) → pos 0 <ℤ c → c *ℤ a ≡ pos 0 → a ≡ pos 0
zero-of-mul c a h e = times-cancel c a (pos 0) h (omega (arith, onℤ, mulℤ c (pos 0)))

pub times_zero : (a b : ℤ) → b ≡ pos 0 → a *ℤ b ≡ pos 0
times_zero a b e = rw e (omega (arith, onℤ, mulℤ a (pos 0)))

-- ---- two places on the line of A and B, seen from A

module _ (A B P Q : Place) where
  seen : len A B *ℤ facing P Q A ≡ along A B P *ℤ along A B Q +ℤ turn A B P *ℤ turn A B Q
  seen = ring8 (λ a b c d e f g h. (along_expr a b c d c d :* facing_expr e f g h a b, along_expr a b c d e f :* along_expr a b c d g h :+ turn_expr a b c d e f :* turn_expr a b c d g h))
      A.x A.y B.x B.y P.x P.y Q.x Q.y tt

  crossed : len A B *ℤ turn P Q A ≡ along A B P *ℤ turn A B Q -ℤ along A B Q *ℤ turn A B P
  crossed = ring8 (λ a b c d e f g h. (along_expr a b c d c d :* turn_expr e f g h a b, along_expr a b c d e f :* turn_expr a b c d g h :- along_expr a b c d g h :* turn_expr a b c d e f))
      A.x A.y B.x B.y P.x P.y Q.x Q.y tt

-- ---- distances

pub len-nonneg : (A B : Place) → pos 0 ≤ℤ len A B
len-nonneg A B =
    let u = B.x -ℤ A.x in
    let v = B.y -ℤ A.y in
    omega (arith, onℤ, nonneg-square u, nonneg-square v, sumℤ (u *ℤ u) (v *ℤ v))

pub along-from : (A B : Place) → along A B A ≡ pos 0
along-from A B = ring4 (λ a b c d. (along_expr a b c d a b, K (pos 0))) A.x A.y B.x B.y tt

-- a place is not apart from itself
pub len-same : (A B : Place) → A ≡ B → pos 0 <ℤ len A B → ⊥
len-same A B e h =
    let k : pos 0 <ℤ len A A = subst (λ (C : Place). pos 0 <ℤ len A C) (sym e) h in
    omega (arith, onℤ, along-from A A)

-- two places that make an area are apart
pub len-above : (A B C : Place) → pos 0 <ℤ turn A B C → pos 0 <ℤ len A B
len-above A B C h = go (lt-or-le (pos 0) (len A B))
  where
    flat : (l f a t : ℤ) → l ≤ℤ pos 0 → pos 0 ≤ℤ f → pos 0 <ℤ t → l *ℤ f ≡ a *ℤ a +ℤ t *ℤ t → ⊥
    flat l f a t k n h e = omega (arith, onℤ, scale-le f l (pos 0) n k, mulℤ (pos 0) f, nonneg-square a, positive-times t t h h, sumℤ (a *ℤ a) (t *ℤ t))

    go : (pos 0 <ℤ len A B) ⊎ (len A B ≤ℤ pos 0) → pos 0 <ℤ len A B
    go (inl l) = l
    go (inr l) = absurd (flat (len A B) (facing C C A) (along A B C) (turn A B C) l (len-nonneg A C) h (seen A B C C))

-- ---- one place on the line

module _ (A B P : Place) (flat : turn A B P ≡ pos 0) (apart : pos 0 <ℤ len A B) where
  -- between A and B
  pub inside-of-along : pos 0 <ℤ along A B P → along A B P <ℤ len A B → StrictlyInside A B P
  inside-of-along h i = record { on_line = flat; between = below-of-mul (len A B) (facing A B P) apart below }
    where
      lagrange : len A B *ℤ facing A B P +ℤ along A B P *ℤ (len A B -ℤ along A B P) ≡ turn A B P *ℤ turn A B P
      lagrange = ring6 (λ a b c d e f. (along_expr a b c d c d :* facing_expr a b c d e f :+ along_expr a b c d e f :* (along_expr a b c d c d :- along_expr a b c d e f), turn_expr a b c d e f :* turn_expr a b c d e f))
          A.x A.y B.x B.y P.x P.y tt

      below : (len A B *ℤ facing A B P) <ℤ pos 0
      below =
          let e = lagrange ∙ times_zero (turn A B P) (turn A B P) flat in
          let p = positive-times (along A B P) (len A B -ℤ along A B P) h (omega (arith, onℤ, subℤ (len A B) (along A B P))) in
          omega (arith, onℤ, sumℤ (len A B *ℤ facing A B P) (along A B P *ℤ (len A B -ℤ along A B P)))

  -- L P = (L − s) A + s B, where s is along and L is len
  pub spread-x : len A B *ℤ P.x ≡ (len A B -ℤ along A B P) *ℤ A.x +ℤ along A B P *ℤ B.x
  spread-x = combine₁ (A.y -ℤ B.y) flat
      (ring6 (λ a b c d e f. (along_expr a b c d c d :* e :- ((along_expr a b c d c d :- along_expr a b c d e f) :* a :+ along_expr a b c d e f :* c), (b :- d) :* (turn_expr a b c d e f :- K (pos 0))))
      A.x A.y B.x B.y P.x P.y tt)

  pub spread-y : len A B *ℤ P.y ≡ (len A B -ℤ along A B P) *ℤ A.y +ℤ along A B P *ℤ B.y
  spread-y = combine₁ (B.x -ℤ A.x) flat
      (ring6 (λ a b c d e f. (along_expr a b c d c d :* f :- ((along_expr a b c d c d :- along_expr a b c d e f) :* b :+ along_expr a b c d e f :* d), (c :- a) :* (turn_expr a b c d e f :- K (pos 0))))
      A.x A.y B.x B.y P.x P.y tt)

  -- at A
  pub at-start : along A B P ≡ pos 0 → P ≡ A
  at-start e = λ i. record { x = one P.x A.x B.x spread-x i; y = one P.y A.y B.y spread-y i }
    where
      one : (p a b : ℤ) → len A B *ℤ p ≡ (len A B -ℤ along A B P) *ℤ a +ℤ along A B P *ℤ b → p ≡ a
      one p a b s = times-cancel (len A B) p a apart
          (s ∙ combine₁ (b -ℤ a) e (ring4 (λ l s a b. ((l :- s) :* a :+ s :* b :- l :* a, (b :- a) :* (s :- K (pos 0)))) (len A B) (along A B P) a b tt))

-- the squares of the distances from the ends
module _ (A B P : Place) where
  pub from_start : along A B P +ℤ facing A B P ≡ len A P
  from_start = ring6 (λ a b c d e f. (along_expr a b c d e f :+ facing_expr a b c d e f, along_expr a b e f e f)) A.x A.y B.x B.y P.x P.y tt

  pub from_end : (len A B -ℤ along A B P) +ℤ facing A B P ≡ len B P
  from_end = ring6 (λ a b c d e f. ((along_expr a b c d c d :- along_expr a b c d e f) :+ facing_expr a b c d e f, along_expr c d e f e f)) A.x A.y B.x B.y P.x P.y tt

-- strictly inside, by how far along
pub along-of-inside : (A B P : Place) → StrictlyInside A B P → pos 0 <ℤ len A B → (pos 0 <ℤ along A B P) × (along A B P <ℤ len A B)
along-of-inside A B P s h = (first, second)
  where
    first : pos 0 <ℤ along A B P
    first = let e = from_start A B P in omega (arith, onℤ, len-nonneg A P, s.between, sumℤ (along A B P) (facing A B P))

    second : along A B P <ℤ len A B
    second = let e = from_end A B P in omega (arith, onℤ, len-nonneg B P, s.between, subℤ (len A B) (along A B P), sumℤ (len A B -ℤ along A B P) (facing A B P))

-- ---- the ends exchanged

pub along-swap : (A B P : Place) → along B A P ≡ len A B -ℤ along A B P
along-swap A B P = ring6 (λ a b c d e f. (along_expr c d a b e f, along_expr a b c d c d :- along_expr a b c d e f)) A.x A.y B.x B.y P.x P.y tt

pub len-swap : (A B : Place) → len B A ≡ len A B
len-swap A B = ring4 (λ a b c d. (along_expr c d a b a b, along_expr a b c d c d)) A.x A.y B.x B.y tt

-- ---- A between two others on its line

pub between-others : (A B P Q : Place) → turn A B P ≡ pos 0 → turn A B Q ≡ pos 0 → pos 0 <ℤ len A B → along A B P <ℤ pos 0 → pos 0 <ℤ along A B Q → StrictlyInside P Q A
between-others A B P Q e f l h i = record {
  on_line = zero-of-mul (len A B) (turn P Q A) l (crossed A B P Q ∙ cross (along A B P) (turn A B Q) (along A B Q) (turn A B P) f e);
  between = below-of-mul (len A B) (facing P Q A) l below;
}
  where
    cross : (a b c d : ℤ) → b ≡ pos 0 → d ≡ pos 0 → a *ℤ b -ℤ c *ℤ d ≡ pos 0
    cross a b c d p q = rw (p, q) (ring4 (λ a b c d. (a :* K (pos 0) :- c :* K (pos 0), K (pos 0))) a b c d tt)

    below : (len A B *ℤ facing P Q A) <ℤ pos 0
    below =
        let e' = seen A B P Q in
        let o = scale-lt (along A B Q) (along A B P) (pos 0) i h in
        let z = times_zero (turn A B P) (turn A B Q) f in
        omega (arith, onℤ, mulℤ (pos 0) (along A B Q), sumℤ (along A B P *ℤ along A B Q) (turn A B P *ℤ turn A B Q))
