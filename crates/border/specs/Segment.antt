-- Points of a segment: between two of them nothing changes sides that does not meet the segment. Assumes nothing.
use Rattle.std.specs.Prelude.{Bool, true, false, ◌≢◌, ◌≡◌, refl, ℤ, pos, neg_ℤ, ◌+ℤ◌, ◌-ℤ◌, ◌*ℤ◌, ◌≤ℤ◌, ◌<ℤ◌}
use Rattle.std.proofs.Common.{sym, ap₂, subst, ◌∙◌, arith}
use Rattle.std.specs.Int.Signed.{lt_z}
use Rattle.whole.specs.Diff.{onℤ, sumℤ}
use Rattle.whole.specs.Ring.{Expr, K, ◌:+◌, ◌:-◌, ◌:*◌, neg, ring2, ring4, ring6, ring8, ring9, ring10, combine₁}
use Rattle.whole.specs.Tests.{lt_z-true}
use Rattle.whole.specs.Order.{positive-times, nonneg-times, nonpos-times, negative-times}
use Rattle.meaning.specs.declared.Place.{Place}
use Rattle.meaning.specs.Mesh.{turn}
use Rattle.meaning.specs.Proper.{Point, left}
use Rattle.border.specs.Signs.{minus-above, below-zero, below-of-minus, lt-le}
use Rattle.border.specs.Under.{Form, key, key_at, ahead, left_expr}

-- ---- a point between two

abbrev pub scaled : ℤ → Point → Point
scaled a s = record { X = a *ℤ s.X; Y = a *ℤ s.Y; W = a *ℤ s.W }

abbrev pub joint : Point → Point → Point
joint s t = record { X = s.X +ℤ t.X; Y = s.Y +ℤ t.Y; W = s.W +ℤ t.W }

-- the mean of s and t by the weights a and b
abbrev pub mix : ℤ → Point → ℤ → Point → Point
mix a s b t = joint (scaled a s) (scaled b t)

left-scaled : (A B : Place) (a : ℤ) (s : Point) → left A B (scaled a s) ≡ a *ℤ left A B s
left-scaled A B a s =
    ring8 (λ ax ay bx by x y w a. (left_expr ax ay bx by (a :* x) (a :* y) (a :* w), a :* left_expr ax ay bx by x y w)) A.x A.y B.x B.y s.X s.Y s.W a tt

left-joint : (A B : Place) (s t : Point) → left A B (joint s t) ≡ left A B s +ℤ left A B t
left-joint A B s t =
    ring10 (λ ax ay bx by x y w u v z. (left_expr ax ay bx by (x :+ u) (y :+ v) (w :+ z), left_expr ax ay bx by x y w :+ left_expr ax ay bx by u v z))
    A.x A.y B.x B.y s.X s.Y s.W t.X t.Y t.W tt

pub left-mix : (A B : Place) (a b : ℤ) (s t : Point) → left A B (mix a s b t) ≡ a *ℤ left A B s +ℤ b *ℤ left A B t
left-mix A B a b s t = left-joint A B (scaled a s) (scaled b t) ∙ ap₂ ◌+ℤ◌ (left-scaled A B a s) (left-scaled A B b t)

-- ahead, as an expression of the solver
abbrev pub ahead_expr : Expr → Expr → Expr → Expr → Expr → Expr → Expr → Expr
ahead_expr f g x y sx sy w = (f :* sx :+ g :* sy) :- (f :* x :+ g :* y) :* w

ahead-scaled : (f : Form) (A : Place) (a : ℤ) (s : Point) → ahead f A (scaled a s) ≡ a *ℤ ahead f A s
ahead-scaled f A a s =
    ring8 (λ f g ax ay x y w a. (ahead_expr f g ax ay (a :* x) (a :* y) (a :* w), a :* ahead_expr f g ax ay x y w)) f.along f.across A.x A.y s.X s.Y s.W a tt

ahead-joint : (f : Form) (A : Place) (s t : Point) → ahead f A (joint s t) ≡ ahead f A s +ℤ ahead f A t
ahead-joint f A s t =
    ring10 (λ f g ax ay x y w u v z. (ahead_expr f g ax ay (x :+ u) (y :+ v) (w :+ z), ahead_expr f g ax ay x y w :+ ahead_expr f g ax ay u v z))
    f.along f.across A.x A.y s.X s.Y s.W t.X t.Y t.W tt

ahead-mix : (f : Form) (A : Place) (a b : ℤ) (s t : Point) → ahead f A (mix a s b t) ≡ a *ℤ ahead f A s +ℤ b *ℤ ahead f A t
ahead-mix f A a b s t = ahead-joint f A (scaled a s) (scaled b t) ∙ ap₂ ◌+ℤ◌ (ahead-scaled f A a s) (ahead-scaled f A b t)

-- ---- on a segment; the key of A is the lower

-- strictly between A and B
pub record Strictly (f : Form) (A B : Place) (s : Point) : Type 0 where
  pub weight : pos 0 <ℤ s.W
  pub on_line : left A B s ≡ pos 0
  pub past-low : pos 0 <ℤ ahead f A s
  pub before-high : ahead f B s <ℤ pos 0

-- the key is not outside those of C and D
pub record Within (f : Form) (C D : Place) (s : Point) : Type 0 where
  pub from_low : pos 0 ≤ℤ ahead f C s
  pub to_high : ahead f D s ≤ℤ pos 0

-- no point strictly between A and B is on C–D, its ends counted
abbrev pub Apart : Form → Place → Place → Place → Place → Type 0
Apart f A B C D = (s : Point) → Strictly f A B s → Within f C D s → left C D s ≢ pos 0

-- ---- signs of a mean

mean-above : (a b x y : ℤ) → pos 0 <ℤ a → pos 0 <ℤ b → pos 0 <ℤ x → pos 0 <ℤ y → pos 0 <ℤ (a *ℤ x +ℤ b *ℤ y)
mean-above a b x y ha hb hx hy =
    let p = positive-times a x ha hx in
    let q = positive-times b y hb hy in
    omega (arith, onℤ, sumℤ (a *ℤ x) (b *ℤ y))

mean-below : (a b x y : ℤ) → pos 0 <ℤ a → pos 0 <ℤ b → x <ℤ pos 0 → y <ℤ pos 0 → (a *ℤ x +ℤ b *ℤ y) <ℤ pos 0
mean-below a b x y ha hb hx hy =
    let p = mean-above a b (neg_ℤ x) (neg_ℤ y) ha hb (minus-above x hx) (minus-above y hy) in
    let e : a *ℤ neg_ℤ x +ℤ b *ℤ neg_ℤ y ≡ neg_ℤ (a *ℤ x +ℤ b *ℤ y) = ring4 (λ a b x y. (a :* neg x :+ b :* neg y, neg (a :* x :+ b :* y))) a b x y tt in
    below-of-minus (a *ℤ x +ℤ b *ℤ y) (subst (λ k. pos 0 <ℤ k) e p)

mean-from : (a b x y : ℤ) → pos 0 <ℤ a → pos 0 <ℤ b → pos 0 ≤ℤ x → pos 0 ≤ℤ y → pos 0 ≤ℤ (a *ℤ x +ℤ b *ℤ y)
mean-from a b x y ha hb hx hy =
    let p = nonneg-times a x (lt-le ha) hx in
    let q = nonneg-times b y (lt-le hb) hy in
    omega (arith, onℤ, sumℤ (a *ℤ x) (b *ℤ y))

mean-to : (a b x y : ℤ) → pos 0 <ℤ a → pos 0 <ℤ b → x ≤ℤ pos 0 → y ≤ℤ pos 0 → (a *ℤ x +ℤ b *ℤ y) ≤ℤ pos 0
mean-to a b x y ha hb hx hy =
    let p = nonpos-times a x (lt-le ha) hx in
    let q = nonpos-times b y (lt-le hb) hy in
    omega (arith, onℤ, sumℤ (a *ℤ x) (b *ℤ y))

mean-zero : (a b x y : ℤ) → x ≡ pos 0 → y ≡ pos 0 → a *ℤ x +ℤ b *ℤ y ≡ pos 0
mean-zero a b x y e g = rw (e, g) (ring2 (λ a b. (a :* K (pos 0) :+ b :* K (pos 0), K (pos 0))) a b tt)

-- a mean of two points of the segment is one
mix-strictly : (f : Form) (A B : Place) (a b : ℤ) (s t : Point) → pos 0 <ℤ a → pos 0 <ℤ b → Strictly f A B s → Strictly f A B t → Strictly f A B (mix a s b t)
mix-strictly f A B a b s t ha hb hs ht = record {
  weight = mean-above a b s.W t.W ha hb hs.weight ht.weight;
  on_line = left-mix A B a b s t ∙ mean-zero a b _ _ hs.on_line ht.on_line;
  past-low = subst (λ k. pos 0 <ℤ k) (sym (ahead-mix f A a b s t)) (mean-above a b _ _ ha hb hs.past-low ht.past-low);
  before-high = subst (λ k. k <ℤ pos 0) (sym (ahead-mix f B a b s t)) (mean-below a b _ _ ha hb hs.before-high ht.before-high);
}

mix-within : (f : Form) (C D : Place) (a b : ℤ) (s t : Point) → pos 0 <ℤ a → pos 0 <ℤ b → Within f C D s → Within f C D t → Within f C D (mix a s b t)
mix-within f C D a b s t ha hb hs ht = record {
  from_low = subst (λ k. pos 0 ≤ℤ k) (sym (ahead-mix f C a b s t)) (mean-from a b _ _ ha hb hs.from_low ht.from_low);
  to_high = subst (λ k. k ≤ℤ pos 0) (sym (ahead-mix f D a b s t)) (mean-to a b _ _ ha hb hs.to_high ht.to_high);
}

-- ---- one side

-- strictly left of C→D
abbrev pub above : Place → Place → Point → Bool
above C D s = lt_z (pos 0) (left C D s)

module _ (f : Form) (A B C D : Place) (apart : Apart f A B C D) where
  -- from one side to the other there is a point on both
  crossing : (s t : Point) → Strictly f A B s → Within f C D s → Strictly f A B t → Within f C D t → pos 0 <ℤ left C D s → left C D t <ℤ pos 0 → ⊥
  crossing s t hs ws ht wt l r =
      let a = neg_ℤ (left C D t) in
      let b = left C D s in
      let ha : pos 0 <ℤ a = minus-above (left C D t) r in
      apart (mix a s b t) (mix-strictly f A B a b s t ha l hs ht) (mix-within f C D a b s t ha l ws wt)
      (left-mix C D a b s t ∙ ring2 (λ x y. (neg y :* x :+ x :* y, K (pos 0))) (left C D s) (left C D t) tt)

  -- all points of A–B between the keys of C and D are on one side of C–D
  pub one_side : (s t : Point) → Strictly f A B s → Within f C D s → Strictly f A B t → Within f C D t → above C D s ≡ above C D t
  one_side s t hs ws ht wt = go (above C D s) (above C D t) refl refl
    where
      go : (x y : Bool) → above C D s ≡ x → above C D t ≡ y → x ≡ y
      go true true e g = refl
      go true false e g = absurd (crossing s t hs ws ht wt (lt_z-true (pos 0) (left C D s) e) (below-zero (left C D t) (apart t ht wt) g))
      go false true e g = absurd (crossing t s ht wt hs ws (lt_z-true (pos 0) (left C D t) g) (below-zero (left C D s) (apart s hs ws) e))
      go false false e g = refl

-- ---- the point of a segment that has a given point's key

-- a place, as a point
abbrev pub corner : Place → Point
corner A = record { X = A.x; Y = A.y; W = pos 1 }

-- on the line of A and B, with the key of s
abbrev pub spot : Form → Place → Place → Point → Point
spot f A B s = mix (neg_ℤ (ahead f B s)) (corner A) (ahead f A s) (corner B)

-- how much the key of B is above that of A
abbrev pub rise : Form → Place → Place → ℤ
rise f A B = key f B -ℤ key f A

pub left-corner : (A B C : Place) → left A B (corner C) ≡ turn A B C
left-corner A B C =
    ring6 (λ a b c d e g. (left_expr a b c d e g (K (pos 1)), (c :- a) :* (g :- b) :- (e :- a) :* (d :- b))) A.x A.y B.x B.y C.x C.y tt

pub left-start : (A B : Place) → left A B (corner A) ≡ pos 0
left-start A B = ring4 (λ a b c d. (left_expr a b c d a b (K (pos 1)), K (pos 0))) A.x A.y B.x B.y tt

pub left_end : (A B : Place) → left A B (corner B) ≡ pos 0
left_end A B = ring4 (λ a b c d. (left_expr a b c d c d (K (pos 1)), K (pos 0))) A.x A.y B.x B.y tt

-- a mean of two places is on their line
pub mix-line : (A B : Place) (a b : ℤ) → left A B (mix a (corner A) b (corner B)) ≡ pos 0
mix-line A B a b = left-mix A B a b (corner A) (corner B) ∙ mean-zero a b (left A B (corner A)) (left A B (corner B)) (left-start A B) (left_end A B)

pub ahead-corner : (f : Form) (A B : Place) → ahead f A (corner B) ≡ rise f A B
ahead-corner f A B = ring2 (λ a b. (b :- a :* K (pos 1), b :- a)) (key f A) (key f B) tt

pub rise-vector : (f : Form) (P Q : Place) → rise f P Q ≡ f.along *ℤ (Q.x -ℤ P.x) +ℤ f.across *ℤ (Q.y -ℤ P.y)
rise-vector f P Q =
    ring6 (λ a b px py qx qy. ((a :* qx :+ b :* qy) :- (a :* px :+ b :* py), a :* (qx :- px) :+ b :* (qy :- py))) f.along f.across P.x P.y Q.x Q.y tt

module _ (f : Form) (A B : Place) (s : Point) where
  spot-line : left A B (spot f A B s) ≡ pos 0
  spot-line = mix-line A B (neg_ℤ (ahead f B s)) (ahead f A s)

  spot-weight : (spot f A B s).W ≡ rise f A B *ℤ s.W
  spot-weight = ring4 (λ a b k w. (neg (k :- b :* w) :* K (pos 1) :+ (k :- a :* w) :* K (pos 1), (b :- a) :* w)) (key f A) (key f B) (key_at f s) s.W tt

  pub spot-ahead : (C : Place) → ahead f C (spot f A B s) ≡ rise f A B *ℤ ahead f C s
  spot-ahead C =
      ahead-mix f C (neg_ℤ (ahead f B s)) (ahead f A s) (corner A) (corner B) ∙
      ring6 (λ a b c k w z. (neg (k :- b :* w) :* (a :- c :* K (pos 1)) :+ (k :- a :* w) :* (b :- c :* K (pos 1)), (b :- a) :* (k :- c :* w)))
      (key f A) (key f B) (key f C) (key_at f s) s.W (pos 0) tt

  -- D − C across B − A, and across s − A
  abbrev across-ab : Place → Place → ℤ
  across-ab C D = (D.x -ℤ C.x) *ℤ (B.y -ℤ A.y) -ℤ (B.x -ℤ A.x) *ℤ (D.y -ℤ C.y)

  abbrev across-s : Place → Place → ℤ
  across-s C D = (D.x -ℤ C.x) *ℤ (s.Y -ℤ A.y *ℤ s.W) -ℤ (s.X -ℤ A.x *ℤ s.W) *ℤ (D.y -ℤ C.y)

  end-from-start : (C D : Place) → left C D (corner B) ≡ left C D (corner A) +ℤ across-ab C D
  end-from-start C D =
      ring8 (λ ax ay bx by cx cy dx dy. (left_expr cx cy dx dy bx by (K (pos 1)), left_expr cx cy dx dy ax ay (K (pos 1)) :+ ((dx :- cx) :* (by :- ay) :- (bx :- ax) :* (dy :- cy))))
      A.x A.y B.x B.y C.x C.y D.x D.y tt

  point-from-start : (C D : Place) → left C D s ≡ s.W *ℤ left C D (corner A) +ℤ across-s C D
  point-from-start C D =
      ring9 (λ ax ay cx cy dx dy x y w. (left_expr cx cy dx dy x y w, w :* left_expr cx cy dx dy ax ay (K (pos 1)) :+ ((dx :- cx) :* (y :- ay :* w) :- (x :- ax :* w) :* (dy :- cy))))
      A.x A.y C.x C.y D.x D.y s.X s.Y s.W tt

  ahead-vector : ahead f A s ≡ f.along *ℤ (s.X -ℤ A.x *ℤ s.W) +ℤ f.across *ℤ (s.Y -ℤ A.y *ℤ s.W)
  ahead-vector =
      ring8 (λ a b ax ay x y w z. (ahead_expr a b ax ay x y w, a :* (x :- ax :* w) :+ b :* (y :- ay :* w))) f.along f.across A.x A.y s.X s.Y s.W (pos 0) tt

  vectors : (C D : Place) → ahead f A s *ℤ across-ab C D ≡ rise f A B *ℤ across-s C D -ℤ rise f C D *ℤ left A B s
  vectors C D =
      rw (ahead-vector, rise-vector f A B, rise-vector f C D)
      (ring8 (λ a b ux uy wx wy x y. ((a :* x :+ b :* y) :* (wx :* uy :- ux :* wy), (a :* ux :+ b :* uy) :* (wx :* y :- x :* wy) :- (a :* wx :+ b :* wy) :* (ux :* y :- x :* uy)))
      f.along f.across (B.x -ℤ A.x) (B.y -ℤ A.y) (D.x -ℤ C.x) (D.y -ℤ C.y) (s.X -ℤ A.x *ℤ s.W) (s.Y -ℤ A.y *ℤ s.W) tt)

  -- by how much the segment is above C–D at the key of s: by how much s is above C–D, less by how much s is above the segment
  pub left-spot : (C D : Place) → left C D (spot f A B s) ≡ rise f A B *ℤ left C D s -ℤ rise f C D *ℤ left A B s
  left-spot C D =
      left-mix C D (neg_ℤ (ahead f B s)) (ahead f A s) (corner A) (corner B) ∙
      rw (end-from-start C D, point-from-start C D)
      (combine₁ (pos 1) (vectors C D)
      (ring9 (λ a b k w t u v r l. ((neg (k :- b :* w) :* t :+ (k :- a :* w) :* (t :+ u)) :- ((b :- a) :* (w :* t :+ v) :- r :* l), K (pos 1) :* ((k :- a :* w) :* u :- ((b :- a) :* v :- r :* l))))
      (key f A) (key f B) (key_at f s) s.W (left C D (corner A)) (across-ab C D) (across-s C D) (rise f C D) (left A B s) tt))

-- the key of s is strictly between those of A and B
pub record Spans (f : Form) (A B : Place) (s : Point) : Type 0 where
  pub weight : pos 0 <ℤ s.W
  pub past-low : pos 0 <ℤ ahead f A s
  pub before-high : ahead f B s <ℤ pos 0

pub spot-strictly : (f : Form) (A B : Place) (s : Point) → pos 0 <ℤ rise f A B → Spans f A B s → Strictly f A B (spot f A B s)
spot-strictly f A B s r h = record {
  weight = subst (λ k. pos 0 <ℤ k) (sym (spot-weight f A B s)) (positive-times (rise f A B) s.W r h.weight);
  on_line = spot-line f A B s;
  past-low = subst (λ k. pos 0 <ℤ k) (sym (spot-ahead f A B s A)) (positive-times (rise f A B) (ahead f A s) r h.past-low);
  before-high = subst (λ k. k <ℤ pos 0) (sym (spot-ahead f A B s B)) (negative-times (rise f A B) (ahead f B s) r h.before-high);
}

pub spot-within : (f : Form) (A B : Place) (s : Point) → pos 0 <ℤ rise f A B → (C D : Place) → Within f C D s → Within f C D (spot f A B s)
spot-within f A B s r C D h = record {
  from_low = subst (λ k. pos 0 ≤ℤ k) (sym (spot-ahead f A B s C)) (nonneg-times (rise f A B) (ahead f C s) (lt-le r) h.from_low);
  to_high = subst (λ k. k ≤ℤ pos 0) (sym (spot-ahead f A B s D)) (nonpos-times (rise f A B) (ahead f D s) (lt-le r) h.to_high);
}
