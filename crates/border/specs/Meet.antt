-- When two segments do not meet, by signs: no end strictly inside the other, no crossing, not the same ends. Places on a line, by their keys. Assumes nothing.
use Rattle.std.specs.Prelude.{Bool, true, false, ◌≢◌, ◌⊎◌, ◌≡◌, refl, ℤ, pos, neg_ℤ, ◌+ℤ◌, ◌-ℤ◌, ◌*ℤ◌, ◌≤ℤ◌, ◌<ℤ◌}
use Rattle.std.proofs.Common.{inl, inr, sym, ap, ap₂, subst, ◌∙◌, arith}
use Rattle.std.specs.Int.Signed.{lt_z}
use Rattle.whole.specs.Diff.{onℤ, sumℤ, negℤ-ud}
use Rattle.whole.specs.Ring.{Expr, K, ◌:+◌, ◌:-◌, ◌:*◌, neg, ring2, ring3, ring4, ring8, combine₁, combine₂}
use Rattle.whole.specs.Tests.{lt_z-true, lt_z-false}
use Rattle.whole.specs.Order.{lt-or-le, le_antisymm, positive-times, nonneg-square, lt_not_le}
use Rattle.meaning.specs.declared.Place.{Place}
use Rattle.meaning.specs.Mesh.{turn}
use Rattle.meaning.specs.Proper.{Point, StrictlyInside, facing, left}
use Rattle.laws.specs.Area.{turn-cycle, turn-mirror, turn-back}
use Rattle.proper.specs.OnLine.{len}
use Rattle.border.specs.Places.{place-eq, inside_back}
use Rattle.border.specs.Signs.{zero-swapped, minus-above, zero-of-minus, unscale-above, zero-of-equal, above-not, below-of-minus, equal-of-zero, sum-above, cancel, lt-le, minus-below, difference-above, zero_or_not, sign-product}
use Rattle.border.specs.Under.{Form, key, key_at, ahead}
use Rattle.border.specs.Segment.{Strictly, Within, Apart, corner, rise, left-corner, left-start, left_end, left-mix, left-spot, rise-vector}

-- ---- products

square_above : (x : ℤ) → x ≢ pos 0 → pos 0 <ℤ (x *ℤ x)
square_above x n = go (lt-or-le (pos 0) (x *ℤ x))
  where
    go : (pos 0 <ℤ (x *ℤ x)) ⊎ ((x *ℤ x) ≤ℤ pos 0) → pos 0 <ℤ (x *ℤ x)
    go (inl h) = h
    go (inr h) = absurd ((sign-product x x n n).1 (le_antisymm h (nonneg-square x)))

-- places with different keys are apart
pub len-above : (f : Form) (A B : Place) → rise f A B ≢ pos 0 → pos 0 <ℤ len A B
len-above f A B n = go (B.x -ℤ A.x) (B.y -ℤ A.y) (λ e. n (rise-vector f A B ∙ e))
  where
    go : (x y : ℤ) → f.along *ℤ x +ℤ f.across *ℤ y ≢ pos 0 → pos 0 <ℤ (x *ℤ x +ℤ y *ℤ y)
    go x y n = step (zero_or_not x) (zero_or_not y)
      where
        step : (x ≡ pos 0) ⊎ (x ≢ pos 0) → (y ≡ pos 0) ⊎ (y ≢ pos 0) → pos 0 <ℤ (x *ℤ x +ℤ y *ℤ y)
        step (inr h) k = sum-above (x *ℤ x) (y *ℤ y) (square_above x h) (nonneg-square y)
        step (inl h) (inr k) = omega (arith, onℤ, nonneg-square x, square_above y k, sumℤ (x *ℤ x) (y *ℤ y))
        step (inl h) (inl k) =
            absurd (n (ap₂ (λ x y. f.along *ℤ x +ℤ f.across *ℤ y) h k ∙ ring2 (λ a b. (a :* K (pos 0) :+ b :* K (pos 0), K (pos 0))) f.along f.across tt))

-- ---- on a line, the key says where

abbrev cofactor : ℤ → ℤ → ℤ → ℤ → ℤ → ℤ → ℤ
cofactor a b p q u v =
    (neg_ℤ b *ℤ ((a *ℤ p +ℤ b *ℤ q) *ℤ u +ℤ (a *ℤ u +ℤ b *ℤ v) *ℤ p) +ℤ a *ℤ ((a *ℤ p +ℤ b *ℤ q) *ℤ v +ℤ (a *ℤ u +ℤ b *ℤ v) *ℤ q)) +ℤ
    (a *ℤ p +ℤ b *ℤ q) *ℤ (b *ℤ p -ℤ a *ℤ q)

abbrev cofactor_expr : Expr → Expr → Expr → Expr → Expr → Expr → Expr
cofactor_expr a b p q u v =
    (neg b :* ((a :* p :+ b :* q) :* u :+ (a :* u :+ b :* v) :* p) :+ a :* ((a :* p :+ b :* q) :* v :+ (a :* u :+ b :* v) :* q)) :+
    (a :* p :+ b :* q) :* (b :* p :- a :* q)

-- on the line with the key of A: it is A
same_place : (f : Form) (A B P : Place) → rise f A B ≢ pos 0 → rise f A P ≡ pos 0 → turn A B P ≡ pos 0 → A ≡ P
same_place f A B P n k e = sym (place-eq (equal-of-zero P.x A.x (cancel (rise f A B) (P.x -ℤ A.x) n x-zero)) (equal-of-zero P.y A.y (cancel (rise f A B) (P.y -ℤ A.y) n y-zero)))
  where
    x-zero : rise f A B *ℤ (P.x -ℤ A.x) ≡ pos 0
    x-zero =
        combine₂ (B.x -ℤ A.x) (neg_ℤ f.across) k e
        (ring8 (λ f g a b c d x y. (
          ((f :* c :+ g :* d) :- (f :* a :+ g :* b)) :* (x :- a) :- K (pos 0),
          (c :- a) :* (((f :* x :+ g :* y) :- (f :* a :+ g :* b)) :- K (pos 0)) :+ neg g :* (((c :- a) :* (y :- b) :- (x :- a) :* (d :- b)) :- K (pos 0)),
        ))
        f.along f.across A.x A.y B.x B.y P.x P.y tt)

    y-zero : rise f A B *ℤ (P.y -ℤ A.y) ≡ pos 0
    y-zero =
        combine₂ (B.y -ℤ A.y) f.along k e
        (ring8 (λ f g a b c d x y. (
          ((f :* c :+ g :* d) :- (f :* a :+ g :* b)) :* (y :- b) :- K (pos 0),
          (d :- b) :* (((f :* x :+ g :* y) :- (f :* a :+ g :* b)) :- K (pos 0)) :+ f :* (((c :- a) :* (y :- b) :- (x :- a) :* (d :- b)) :- K (pos 0)),
        ))
        f.along f.across A.x A.y B.x B.y P.x P.y tt)

module _ (f : Form) (A B : Place) where
  rise-split : (P : Place) → rise f A B ≡ rise f A P +ℤ rise f P B
  rise-split P = ring3 (λ a b p. (b :- a, (p :- a) :+ (b :- p))) (key f A) (key f B) (key f P) tt

  -- of a place of the line: rise² · facing = −(rise from A)(rise to B) |AB|²
  facing-key : (P : Place) → turn A B P ≡ pos 0 →
      (rise f A B *ℤ rise f A B) *ℤ facing A B P ≡ neg_ℤ ((rise f A P *ℤ rise f P B) *ℤ len A B)
  facing-key P e =
      combine₁ (cofactor f.along f.across (B.x -ℤ A.x) (B.y -ℤ A.y) (P.x -ℤ A.x) (P.y -ℤ A.y)) e
      (ring8 (λ f g a b c d x y. (
        (((f :* c :+ g :* d) :- (f :* a :+ g :* b)) :* ((f :* c :+ g :* d) :- (f :* a :+ g :* b))) :* ((a :- x) :* (c :- x) :+ (b :- y) :* (d :- y)) :-
            neg ((((f :* x :+ g :* y) :- (f :* a :+ g :* b)) :* ((f :* c :+ g :* d) :- (f :* x :+ g :* y))) :* ((c :- a) :* (c :- a) :+ (d :- b) :* (d :- b))),
        cofactor_expr f g (c :- a) (d :- b) (x :- a) (y :- b) :* (((c :- a) :* (y :- b) :- (x :- a) :* (d :- b)) :- K (pos 0)),
      ))
      f.along f.across A.x A.y B.x B.y P.x P.y tt)

  -- strictly between the ends by its key, so strictly inside
  key-inside : (P : Place) → pos 0 <ℤ rise f A P → pos 0 <ℤ rise f P B → turn A B P ≡ pos 0 → StrictlyInside A B P
  key-inside P h i e = record { on_line = e; between = negative (rise f A B *ℤ rise f A B) (facing A B P) square (subst (λ k. k <ℤ pos 0) (sym (facing-key P e)) (minus-below _ product)) }
    where
      whole : pos 0 <ℤ rise f A B
      whole = subst (λ k. pos 0 <ℤ k) (sym (rise-split P)) (sum-above (rise f A P) (rise f P B) h (lt-le i))

      square : pos 0 <ℤ (rise f A B *ℤ rise f A B)
      square = positive-times (rise f A B) (rise f A B) whole whole

      product : pos 0 <ℤ ((rise f A P *ℤ rise f P B) *ℤ len A B)
      product =
          positive-times (rise f A P *ℤ rise f P B) (len A B) (positive-times (rise f A P) (rise f P B) h i)
          (len-above f A B (above-not whole))

      negative : (a x : ℤ) → pos 0 <ℤ a → (a *ℤ x) <ℤ pos 0 → x <ℤ pos 0
      negative a x h l = below-of-minus x (unscale-above (neg_ℤ x) a h (subst (λ k. pos 0 <ℤ k) (ring2 (λ a x. (neg (a :* x), neg x :* a)) a x tt) (minus-above (a *ℤ x) l)))

-- ---- two segments

-- strictly on both sides
pub data Opposite (x y : ℤ) : Type 0 where
  down : pos 0 <ℤ x → y <ℤ pos 0 → Opposite x y
  upwards : x <ℤ pos 0 → pos 0 <ℤ y → Opposite x y

-- C and D are strictly on both sides of A–B, and A and B of C–D
pub record Cross (A B C D : Place) : Type 0 where
  pub ends-of-second : Opposite (turn A B C) (turn A B D)
  pub ends-of-first : Opposite (turn C D A) (turn C D B)

-- what the signs say of two segments that do not meet, but for a shared end
pub record Missed (A B C D : Place) : Type 0 where
  pub c_out : ¬ StrictlyInside A B C
  pub d-out : ¬ StrictlyInside A B D
  pub a-out : ¬ StrictlyInside C D A
  pub b-out : ¬ StrictlyInside C D B
  pub no-cross : ¬ Cross A B C D
  pub not_same : A ≡ C → B ≢ D
  pub not-turned : A ≡ D → B ≢ C

opposite-swap : {x y : ℤ} → Opposite x y → Opposite y x
opposite-swap (down h i) = upwards i h
opposite-swap (upwards h i) = down i h

opposite-neg : (x y u v : ℤ) → u ≡ neg_ℤ x → v ≡ neg_ℤ y → Opposite u v → Opposite x y
opposite-neg x y u v e g (down h i) = upwards (omega (arith, onℤ, negℤ-ud x)) (omega (arith, onℤ, negℤ-ud y))
opposite-neg x y u v e g (upwards h i) = down (omega (arith, onℤ, negℤ-ud x)) (omega (arith, onℤ, negℤ-ud y))

turn-negative : (A B P : Place) → turn B A P ≡ neg_ℤ (turn A B P)
turn-negative A B P = turn-cycle B A P ∙ turn-mirror A B P

-- the same of the segments the other way round
pub missed-back : {A B C D : Place} → Missed A B C D → Missed A B D C
missed-back {A} {B} {C} {D} h = record {
  c_out = h.d-out;
  d-out = h.c_out;
  a-out = λ i. h.a-out (inside_back i);
  b-out = λ i. h.b-out (inside_back i);
  no-cross = λ c. h.no-cross (record {
    ends-of-second = opposite-swap c.ends-of-second;
    ends-of-first = opposite-neg (turn C D A) (turn C D B) (turn D C A) (turn D C B) (turn-negative C D A) (turn-negative C D B) c.ends-of-first;
  });
  not_same = h.not-turned;
  not-turned = h.not_same;
}

missed-over : {A B C D : Place} → Missed A B C D → Missed C D A B
missed-over h = record {
  c_out = h.a-out;
  d-out = h.b-out;
  a-out = h.c_out;
  b-out = h.d-out;
  no-cross = λ c. h.no-cross (record { ends-of-second = c.ends-of-first; ends-of-first = c.ends-of-second });
  not_same = λ e g. h.not_same (sym e) (sym g);
  not-turned = λ e g. h.not-turned (sym g) (sym e);
}

pub missed_first : {A B C D : Place} → Missed A B C D → Missed B A C D
missed_first h = missed-over (missed-back (missed-over h))

opposite-or-zero : (a b x y : ℤ) → pos 0 <ℤ a → pos 0 <ℤ b → a *ℤ x +ℤ b *ℤ y ≡ pos 0 → Opposite x y ⊎ ((x ≡ pos 0) × (y ≡ pos 0))
opposite-or-zero a b x y ha hb e = go (lt_z (pos 0) x) (lt_z x (pos 0)) refl refl
  where
    other : (p q : ℤ) → p +ℤ q ≡ pos 0 → neg_ℤ q ≡ p
    other p q h = omega (arith, onℤ, sumℤ p q, negℤ-ud q)

    neg-zero : (p q : ℤ) → p +ℤ q ≡ pos 0 → p ≡ pos 0 → q ≡ pos 0
    neg-zero p q h i = omega (arith, onℤ, sumℤ p q)

    go : (s t : Bool) → lt_z (pos 0) x ≡ s → lt_z x (pos 0) ≡ t → Opposite x y ⊎ ((x ≡ pos 0) × (y ≡ pos 0))
    go true t g h =
        inl (down (lt_z-true (pos 0) x g)
        (below-of-minus y (unscale-above (neg_ℤ y) b hb (subst (λ k. pos 0 <ℤ k) (sym (other (a *ℤ x) (b *ℤ y) e) ∙ ring2 (λ b y. (neg (b :* y), neg y :* b)) b y tt) (positive-times a x ha (lt_z-true (pos 0) x g))))))
    go false true g h =
        inl (upwards (lt_z-true x (pos 0) h)
        (unscale-above y b hb (subst (λ k. pos 0 <ℤ k)
        (ring2 (λ a x. (a :* neg x, neg (a :* x))) a x tt ∙ ap neg_ℤ (sym (other (a *ℤ x) (b *ℤ y) e)) ∙ ring2 (λ b y. (neg (neg (b :* y)), y :* b)) b y tt) (positive-times a (neg_ℤ x) ha (minus-above x (lt_z-true x (pos 0) h))))))
    go false false g h =
        let z = le_antisymm (lt_z-false (pos 0) x g) (lt_z-false x (pos 0) h) in
        inr (z, cancel b y (above-not hb) (neg-zero (a *ℤ x) (b *ℤ y) e (ap (λ k. a *ℤ k) z ∙ ring2 (λ a b. (a :* K (pos 0), K (pos 0))) a b tt)))

module _ (f : Form) (A B C D : Place) where
  -- a point of both lines
  on_both : (s : Point) → left A B s ≡ pos 0 → left C D s ≡ pos 0 → neg_ℤ (ahead f B s) *ℤ turn C D A +ℤ ahead f A s *ℤ turn C D B ≡ pos 0
  on_both s g h =
      ap₂ (λ x y. neg_ℤ (ahead f B s) *ℤ x +ℤ ahead f A s *ℤ y) (sym (left-corner C D A)) (sym (left-corner C D B)) ∙
      sym (left-mix C D (neg_ℤ (ahead f B s)) (ahead f A s) (corner A) (corner B)) ∙ left-spot f A B s C D ∙
      ap₂ (λ x y. rise f A B *ℤ x -ℤ rise f C D *ℤ y) h g ∙ ring2 (λ a b. (a :* K (pos 0) :- b :* K (pos 0), K (pos 0))) (rise f A B) (rise f C D) tt

  -- A and B are on the line of C and D, so C and D on theirs
  both-lines : rise f C D ≢ pos 0 → turn C D A ≡ pos 0 → turn C D B ≡ pos 0 → (turn A B C ≡ pos 0) × (turn A B D ≡ pos 0)
  both-lines n g h = (at_place C (left-start C D), at_place D (left_end C D))
    where
      at_place : (P : Place) → left C D (corner P) ≡ pos 0 → turn A B P ≡ pos 0
      at_place P e =
          sym (left-corner A B P) ∙ cancel (rise f C D) (left A B (corner P)) n
          (zero-of-minus (rise f C D *ℤ left A B (corner P))
          (ring2 (λ a b. (neg b, a :* K (pos 0) :- b)) (rise f A B) (rise f C D *ℤ left A B (corner P)) tt ∙
          ap (λ k. rise f A B *ℤ k -ℤ rise f C D *ℤ left A B (corner P)) (sym e) ∙ sym (left-spot f A B (corner P) C D) ∙
          left-mix C D (neg_ℤ (ahead f B (corner P))) (ahead f A (corner P)) (corner A) (corner B) ∙
          ap₂ (λ x y. neg_ℤ (ahead f B (corner P)) *ℤ x +ℤ ahead f A (corner P) *ℤ y) (left-corner C D A ∙ g) (left-corner C D B ∙ h) ∙
          ring2 (λ a b. (neg a :* K (pos 0) :+ b :* K (pos 0), K (pos 0))) (ahead f B (corner P)) (ahead f A (corner P)) tt))

-- three ways
data Order (a b : ℤ) : Type 0 where
  less : a <ℤ b → Order a b
  same : a ≡ b → Order a b
  more : b <ℤ a → Order a b

order : (a b : ℤ) → Order a b
order a b = go (lt_z a b) (lt_z b a) refl refl
  where
    go : (s t : Bool) → lt_z a b ≡ s → lt_z b a ≡ t → Order a b
    go true t g h = less (lt_z-true a b g)
    go false true g h = more (lt_z-true b a h)
    go false false g h = same (le_antisymm (lt_z-false b a h) (lt_z-false a b g))

module _ (f : Form) (A B C D : Place) (low-high : pos 0 <ℤ rise f A B) (slanted : rise f C D ≢ pos 0) (missed : Missed A B C D)
    (s : Point) (on : Strictly f A B s) (within : Within f C D s) (line : left C D s ≡ pos 0) where
  rise-ahead : (P Q : Place) → rise f P Q *ℤ s.W ≡ ahead f P s -ℤ ahead f Q s
  rise-ahead P Q = ring4 (λ p q k w. ((q :- p) :* w, (k :- p :* w) :- (k :- q :* w))) (key f P) (key f Q) (key_at f s) s.W tt

  -- the lower key is the one that is farther behind
  rises : (P Q : Place) → ahead f Q s <ℤ ahead f P s → pos 0 <ℤ rise f P Q
  rises P Q h = unscale-above (rise f P Q) s.W on.weight (subst (λ k. pos 0 <ℤ k) (sym (rise-ahead P Q)) (difference-above (ahead f P s) (ahead f Q s) h))

  level : (P Q : Place) → ahead f P s ≡ ahead f Q s → rise f P Q ≡ pos 0
  level P Q e = cancel s.W (rise f P Q) (above-not on.weight) (ring2 (λ w r. (w :* r, r :* w)) s.W (rise f P Q) tt ∙ rise-ahead P Q ∙ zero-of-equal (ahead f P s) (ahead f Q s) e)

  below-trans : {a b : ℤ} → a <ℤ pos 0 → pos 0 ≤ℤ b → a <ℤ b
  below-trans h i = omega (arith, onℤ)

  trans-above : {a b : ℤ} → a ≤ℤ pos 0 → pos 0 <ℤ b → a <ℤ b
  trans-above h i = omega (arith, onℤ)

  weighed : neg_ℤ (ahead f D s) *ℤ turn A B C +ℤ ahead f C s *ℤ turn A B D ≡ pos 0
  weighed = on_both f C D A B s line on.on_line

  -- the point is C, or D
  at-start : ahead f C s ≡ pos 0 → ⊥
  at-start e =
      missed.c_out (key-inside f A B C (rises A C (subst (λ k. k <ℤ ahead f A s) (sym e) on.past-low)) (rises C B (subst (λ k. ahead f B s <ℤ k) (sym e) on.before-high))
      (cancel (neg_ℤ (ahead f D s)) (turn A B C) (λ g. slanted (level C D (e ∙ sym (zero-of-minus (ahead f D s) g))))
      (sym (ap (λ k. neg_ℤ (ahead f D s) *ℤ turn A B C +ℤ k *ℤ turn A B D) e ∙ ring2 (λ a b. (a :+ K (pos 0) :* b, a)) (neg_ℤ (ahead f D s) *ℤ turn A B C) (turn A B D) tt) ∙ weighed)))

  at-end : ahead f D s ≡ pos 0 → ⊥
  at-end e =
      missed.d-out (key-inside f A B D (rises A D (subst (λ k. k <ℤ ahead f A s) (sym e) on.past-low)) (rises D B (subst (λ k. ahead f B s <ℤ k) (sym e) on.before-high))
      (cancel (ahead f C s) (turn A B D) (λ g. slanted (level C D (g ∙ sym e)))
      (sym (ap (λ k. neg_ℤ k *ℤ turn A B C +ℤ ahead f C s *ℤ turn A B D) e ∙ ring2 (λ a b. (K (pos 0) :* b :+ a, a)) (ahead f C s *ℤ turn A B D) (turn A B C) tt) ∙ weighed)))

  -- all four on one line
  in-line : turn C D A ≡ pos 0 → turn C D B ≡ pos 0 → turn A B C ≡ pos 0 → turn A B D ≡ pos 0 → ⊥
  in-line ta tb tc td = go (order (ahead f A s) (ahead f C s))
    where
      back-not : rise f B A ≢ pos 0
      back-not e = above-not low-high (zero-swapped (key f A) (key f B) e)

      one-start : A ≡ C → Order (ahead f B s) (ahead f D s) → ⊥
      one-start e (less h) = missed.d-out (key-inside f A B D (rises A D (trans-above within.to_high on.past-low)) (rises D B h) td)
      one-start e (same h) = missed.not_same e (same_place f B A D back-not (level B D h) (turn-back A B D td))
      one-start e (more h) = missed.b-out (key-inside f C D B (rises C B (below-trans on.before-high within.from_low)) (rises B D h) tb)

      go : Order (ahead f A s) (ahead f C s) → ⊥
      go (less h) = missed.a-out (key-inside f C D A (rises C A h) (rises A D (trans-above within.to_high on.past-low)) ta)
      go (same h) = one-start (same_place f A B C (above-not low-high) (level A C h) tc) (order (ahead f B s) (ahead f D s))
      go (more h) = missed.c_out (key-inside f A B C (rises A C h) (rises C B (below-trans on.before-high within.from_low)) tc)

  no-meeting : ⊥
  no-meeting = go (order (ahead f C s) (pos 0)) (order (ahead f D s) (pos 0))
    where
      sides : Opposite (turn A B C) (turn A B D) ⊎ ((turn A B C ≡ pos 0) × (turn A B D ≡ pos 0)) → Opposite (turn C D A) (turn C D B) ⊎ ((turn C D A ≡ pos 0) × (turn C D B ≡ pos 0)) → ⊥
      sides (inl p) (inl q) = missed.no-cross (record { ends-of-second = p; ends-of-first = q })
      sides (inl p) (inr (ta, tb)) = let (tc, td) = both-lines f A B C D slanted ta tb in in-line ta tb tc td
      sides (inr (tc, td)) q = let (ta, tb) = both-lines f C D A B (above-not low-high) tc td in in-line ta tb tc td

      go : Order (ahead f C s) (pos 0) → Order (ahead f D s) (pos 0) → ⊥
      go (less h) y = lt_not_le h within.from_low
      go (same e) y = at-start e
      go (more h) (less i) =
          sides (opposite-or-zero (neg_ℤ (ahead f D s)) (ahead f C s) (turn A B C) (turn A B D) (minus-above (ahead f D s) i) h weighed)
          (opposite-or-zero (neg_ℤ (ahead f B s)) (ahead f A s) (turn C D A) (turn C D B) (minus-above (ahead f B s) on.before-high) on.past-low (on_both f A B C D s on.on_line line))
      go (more h) (same e) = at-end e
      go (more h) (more i) = lt_not_le i within.to_high

-- two segments of which the signs say that they do not meet
pub apart-missed : (f : Form) (A B C D : Place) → pos 0 <ℤ rise f A B → rise f C D ≢ pos 0 → Missed A B C D → Apart f A B C D
apart-missed f A B C D r n missed s on within line = no-meeting f A B C D r n missed s on within line
