-- Sums of points, linear forms, convex sets of points, and the one identity: a form is linear. Assumes nothing.
use Rattle.std.specs.Prelude.{◌≡◌, ◌⊎◌, ℕ, ◌+◌, ◌<◌, ℤ, pos, neg_ℤ, ◌+ℤ◌, ◌-ℤ◌, ◌*ℤ◌, ◌≤ℤ◌, ◌<ℤ◌}
use Rattle.std.proofs.Common.{◌∙◌, inl, inr, arith}
use Rattle.whole.specs.Diff.{onℤ, sumℤ, mulℤ}
use Rattle.whole.specs.Ring.{◌:+◌, ◌:-◌, ◌:*◌, neg, ring7, ring9}
use Rattle.whole.specs.Order.{times-le}
use Rattle.meaning.specs.declared.Place.{Place}
use Rattle.meaning.specs.Proper.{Point, left}

infixl 6 ◌⊕◌
infixr 7 ◌⊙◌
abbrev pub ◌⊕◌ : Point → Point → Point
s ⊕ t = record { X = s.X +ℤ t.X; Y = s.Y +ℤ t.Y; W = s.W +ℤ t.W }

abbrev pub ◌⊙◌ : ℤ → Point → Point
n ⊙ s = record { X = n *ℤ s.X; Y = n *ℤ s.Y; W = n *ℤ s.W }

-- a X + b Y + c W
pub record Form : Type 0 where
  pub a : ℤ
  pub b : ℤ
  pub c : ℤ

unfoldable pub val : Form → Point → ℤ
val f s = f.a *ℤ s.X +ℤ f.b *ℤ s.Y +ℤ f.c *ℤ s.W

pub val-sum : (f : Form) (s t : Point) → val f (s ⊕ t) ≡ val f s +ℤ val f t
unfolding val
val-sum f s t =
    ring9 (λ a b c x y w x' y' w'. (a :* (x :+ x') :+ b :* (y :+ y') :+ c :* (w :+ w'), (a :* x :+ b :* y :+ c :* w) :+ (a :* x' :+ b :* y' :+ c :* w')))
    f.a f.b f.c s.X s.Y s.W t.X t.Y t.W tt

pub val-times : (f : Form) (n : ℤ) (s : Point) → val f (n ⊙ s) ≡ n *ℤ val f s
unfolding val
val-times f n s =
    ring7 (λ a b c x y w n. (a :* (n :* x) :+ b :* (n :* y) :+ c :* (n :* w), n :* (a :* x :+ b :* y :+ c :* w)))
    f.a f.b f.c s.X s.Y s.W n tt

-- a side's form
pub side : Place → Place → Form
side p q = record { a = neg_ℤ (q.y -ℤ p.y); b = q.x -ℤ p.x; c = p.x *ℤ q.y -ℤ p.y *ℤ q.x }

pub side_left : (p q : Place) (s : Point) → val (side p q) s ≡ left p q s
unfolding val side
side_left p q s =
    ring7 (λ px py qx qy x y w. (neg (qy :- py) :* x :+ (qx :- px) :* y :+ (px :* qy :- py :* qx) :* w, (qx :- px) :* (y :- py :* w) :- (x :- px :* w) :* (qy :- py)))
    p.x p.y q.x q.y s.X s.Y s.W tt

-- the place as a point
abbrev pub spot : Place → Point
spot p = record { X = p.x; Y = p.y; W = pos 1 }

-- ---- convex sets: with points in C, their sums by weights are in C, where not all weights are 0
abbrev pub mix : ℕ → ℕ → ℕ → ℕ → Point → Point → Point → Point → Point
mix m n k l s t u v = (pos m ⊙ s ⊕ pos n ⊙ t) ⊕ (pos k ⊙ u ⊕ pos l ⊙ v)

-- a point of C, or of no weight
abbrev pub In : (Point → Type 0) → ℕ → Point → Type 0
In C n s = (n ≡ 0) ⊎ C s

pub record Convex (C : Point → Type 0) : Type 0 where
  pub closed : (m n k l : ℕ) (s t u v : Point) → 0 < m + n + k + l → In C m s → In C n t → In C k u → In C l v → C (mix m n k l s t u v)

module _ (C D : Point → Type 0) where
  one : (n : ℕ) (s : Point) → In (λ s. C s × D s) n s → In C n s
  one n s (inl e) = inl e
  one n s (inr h) = inr h.0

  two : (n : ℕ) (s : Point) → In (λ s. C s × D s) n s → In D n s
  two n s (inl e) = inl e
  two n s (inr h) = inr h.1

  pub both : Convex C → Convex D → Convex (λ s. C s × D s)
  both c d = record {
    closed = λ m n k l s t u v h a b e f. (
      c.closed m n k l s t u v h (one m s a) (one n t b) (one k u e) (one l v f),
      d.closed m n k l s t u v h (two m s a) (two n t b) (two k u e) (two l v f),
    );
  }

-- a weight times what is above 0 is at least the weight
weigh : (n : ℕ) (v : ℤ) → (n ≡ 0) ⊎ (pos 0 <ℤ v) → pos n ≤ℤ (pos n *ℤ v)
weigh n v (inl e) = rw e (omega (arith, onℤ, mulℤ (pos 0) v))
weigh n v (inr h) = omega (arith, onℤ, mulℤ (pos n) (pos 1), times-le (pos n) (pos 1) v (omega (arith, onℤ)) (omega (arith, onℤ)))

pub weigh4 : (m n k l : ℕ) (a b c d : ℤ) → (m ≡ 0) ⊎ (pos 0 <ℤ a) → (n ≡ 0) ⊎ (pos 0 <ℤ b) → (k ≡ 0) ⊎ (pos 0 <ℤ c) → (l ≡ 0) ⊎ (pos 0 <ℤ d)
    → pos (m + n + k + l) ≤ℤ ((pos m *ℤ a +ℤ pos n *ℤ b) +ℤ (pos k *ℤ c +ℤ pos l *ℤ d))
weigh4 m n k l a b c d e f g h =
    omega (arith, onℤ, weigh m a e, weigh n b f, weigh k c g, weigh l d h, sumℤ (pos m *ℤ a) (pos n *ℤ b), sumℤ (pos k *ℤ c) (pos l *ℤ d), sumℤ (pos m *ℤ a +ℤ pos n *ℤ b) (pos k *ℤ c +ℤ pos l *ℤ d))

val-mix : (f : Form) (m n k l : ℕ) (s t u v : Point) → val f (mix m n k l s t u v) ≡ (pos m *ℤ val f s +ℤ pos n *ℤ val f t) +ℤ (pos k *ℤ val f u +ℤ pos l *ℤ val f v)
val-mix f m n k l s t u v =
    val-sum f (pos m ⊙ s ⊕ pos n ⊙ t) (pos k ⊙ u ⊕ pos l ⊙ v)
    ∙ rw (val-sum f (pos m ⊙ s) (pos n ⊙ t), val-sum f (pos k ⊙ u) (pos l ⊙ v), val-times f (pos m) s, val-times f (pos n) t, val-times f (pos k) u, val-times f (pos l) v)

-- where a form is above 0
abbrev pub Above : Form → Point → Type 0
Above f s = pos 0 <ℤ val f s

pub above : (f : Form) → Convex (Above f)
above f = record {
  closed = λ m n k l s t u v h a b c d.
      rw (val-mix f m n k l s t u v) (omega (arith, onℤ, weigh4 m n k l (val f s) (val f t) (val f u) (val f v) a b c d));
}
