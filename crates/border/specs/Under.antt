-- One arrow under a point, and one triangle: of a point off its lines and keys, the arrows of a triangle under it come to 1 inside and to 0 outside. Assumes nothing.
use Rattle.std.specs.Prelude.{Bool, true, false, not, ◌&&◌, ◌||◌, ◌≢◌, ◌≡◌, refl, ℤ, pos, neg_ℤ, ◌+ℤ◌, ◌-ℤ◌, ◌*ℤ◌, ◌<ℤ◌}
use Rattle.std.proofs.Common.{sym, ap, subst, ◌∙◌, arith}
use Rattle.std.specs.Int.Signed.{lt_z}
use Rattle.whole.specs.Diff.{onℤ, sumℤ}
use Rattle.whole.specs.Ring.{Expr, K, ◌:+◌, ◌:-◌, ◌:*◌, neg, ring2, ring8, ring9}
use Rattle.whole.specs.Tests.{lt_z-true, lt-lt_z, tests}
use Rattle.whole.specs.Order.{positive-times}
use Rattle.lists.specs.ListsLaw.{clash, and_both, and_left, and_right}
use Rattle.meaning.specs.declared.Place.{Place}
use Rattle.meaning.specs.Good.{same_z}
use Rattle.meaning.specs.Proper.{Shape, Point, Inside, area, left}
use Rattle.laws.specs.Star.{same_z-eq}
use Rattle.border.specs.Signs.{below-zero, equal-of-zero, sign-product, difference-swapped, not-lt, neg-above, agree, lt-zero}
use Rattle.border.specs.Sums.{one}

-- ---- definitions

-- a linear form of the plane: along x + across y
pub record Form : Type 0 where
  pub along : ℤ
  pub across : ℤ

-- the form's value at a place
abbrev pub key : Form → Place → ℤ
key f A = f.along *ℤ A.x +ℤ f.across *ℤ A.y

-- the form's value at the point, times its W
abbrev pub key_at : Form → Point → ℤ
key_at f s = f.along *ℤ s.X +ℤ f.across *ℤ s.Y

-- A's key is below the point's
abbrev pub past : Form → Place → Point → Bool
past f A s = lt_z (key f A *ℤ s.W) (key_at f s)

-- A's key is above the point's
abbrev pub before : Form → Place → Point → Bool
before f A s = lt_z (key_at f s) (key f A *ℤ s.W)

-- the point's key is between A's, which is the lower, and B's, and the point is strictly left of A→B
abbrev pub rises : Form → Place → Place → Point → Bool
rises f A B s = past f A s && before f B s && lt_z (pos 0) (left A B s)

-- 1 if A→B rises under the point, −1 if B→A does, 0 otherwise
unfoldable pub under : Form → Place → Place → Point → ℤ
under f A B s = one (rises f A B s) -ℤ one (rises f B A s)

-- the test of Inside
abbrev pub inside : Shape → Point → Bool
inside t s = lt_z (pos 0) (left t.p t.q s) && (lt_z (pos 0) (left t.q t.r s) && lt_z (pos 0) (left t.r t.p s))

-- the point is on no line of the triangle's sides, and no corner has its key
pub record Off (f : Form) (t : Shape) (s : Point) : Type 0 where
  pub weight : pos 0 <ℤ s.W
  pub off-pq : left t.p t.q s ≢ pos 0
  pub off-qr : left t.q t.r s ≢ pos 0
  pub off-rp : left t.r t.p s ≢ pos 0
  pub key-p : key f t.p *ℤ s.W ≢ key_at f s
  pub key-q : key f t.q *ℤ s.W ≢ key_at f s
  pub key-r : key f t.r *ℤ s.W ≢ key_at f s

-- ---- an arrow the other way round

pub under-swapped : (f : Form) (A B : Place) (s : Point) → under f B A s ≡ neg_ℤ (under f A B s)
unfolding under
under-swapped f A B s = difference-swapped (one (rises f A B s)) (one (rises f B A s))

pub left-swapped : (A B : Place) (s : Point) → left B A s ≡ neg_ℤ (left A B s)
left-swapped A B s =
    ring8 (λ a b c d X Y W n. ((a :- c) :* (Y :- d :* W) :- (X :- c :* W) :* (b :- d), neg ((c :- a) :* (Y :- b :* W) :- (X :- a :* W) :* (d :- b))))
    A.x A.y B.x B.y s.X s.Y s.W (pos 0) tt

-- ---- six signs

every : (Bool → Bool) → Bool
every f = f true && f false

every-at : (f : Bool → Bool) → every f ≡ true → (b : Bool) → f b ≡ true
unfolding every
every-at f h true = and_left (f true) (f false) h
every-at f h false = and_right (f true) (f false) h

abbrev same_signs : Bool → Bool → Bool → Bool
same_signs a b c = agree a b && agree a c

-- under, by the signs of the keys and of left
abbrev step : Bool → Bool → Bool → ℤ
step a b c = one (a && not b && c) -ℤ one (b && not a && not c)

-- u, v, w: the keys of p, q, r are below the point's; l, m, n: the point is left of p→q, q→r, r→p
around : Bool → Bool → Bool → Bool → Bool → Bool → Bool
around u v w l m n =
    not (l || (m || n)) || same_signs (agree m u) (agree n v) (agree l w) || same_z (step u v l +ℤ (step v w m +ℤ step w u n)) (one (l && (m && n)))

around-holds : (u v w l m n : Bool) → around u v w l m n ≡ true
unfolding every around
around-holds u v w l m n =
    every-at (λ n. around u v w l m n) (every-at (λ m. every (λ n. around u v w l m n))
    (every-at (λ l. every (λ m. every (λ n. around u v w l m n)))
    (every-at (λ w. every (λ l. every (λ m. every (λ n. around u v w l m n))))
    (every-at (λ v. every (λ w. every (λ l. every (λ m. every (λ n. around u v w l m n)))))
    (every-at (λ u. every (λ v. every (λ w. every (λ l. every (λ m. every (λ n. around u v w l m n)))))) refl u) v) w) l) m) n

six-signs : (u v w l m n : Bool) → l || (m || n) ≡ true → same_signs (agree m u) (agree n v) (agree l w) ≡ false →
    step u v l +ℤ (step v w m +ℤ step w u n) ≡ one (l && (m && n))
unfolding around
six-signs u v w l m n some_left differ = same_z-eq _ _ (go (l || (m || n)) (same_signs (agree m u) (agree n v) (agree l w)) some_left differ (around-holds u v w l m n))
  where
    go : (a b : Bool) {c : Bool} → a ≡ true → b ≡ false → not a || b || c ≡ true → c ≡ true
    go true true y z h = clash z
    go true false y z h = h
    go false b y z h = clash (sym y)

-- three numbers that come to something above 0 are not all below it; three that come to 0 are not all on one side of it
some-above : (l m n : ℤ) → pos 0 <ℤ (l +ℤ (m +ℤ n)) → lt_z (pos 0) l || (lt_z (pos 0) m || lt_z (pos 0) n) ≡ true
some-above l m n h = go (lt_z (pos 0) l) (lt_z (pos 0) m) (lt_z (pos 0) n) refl refl refl
  where
    go : (a b c : Bool) → lt_z (pos 0) l ≡ a → lt_z (pos 0) m ≡ b → lt_z (pos 0) n ≡ c → a || (b || c) ≡ true
    go true b c e f g = refl
    go false true c e f g = refl
    go false false true e f g = refl
    go false false false e f g = absurd (omega (arith, onℤ, tests, sumℤ m n, sumℤ l (m +ℤ n)))

not-one-side : (x y z : ℤ) → x ≢ pos 0 → y ≢ pos 0 → z ≢ pos 0 → x +ℤ (y +ℤ z) ≡ pos 0 → same_signs (lt_z (pos 0) x) (lt_z (pos 0) y) (lt_z (pos 0) z) ≡ false
not-one-side x y z h i j s = go (lt_z (pos 0) x) (lt_z (pos 0) y) (lt_z (pos 0) z) refl refl refl
  where
    go : (a b c : Bool) → lt_z (pos 0) x ≡ a → lt_z (pos 0) y ≡ b → lt_z (pos 0) z ≡ c → same_signs a b c ≡ false
    go true true true e f g = absurd (omega (arith, onℤ, tests, sumℤ y z, sumℤ x (y +ℤ z)))
    go true true false e f g = refl
    go true false c e f g = refl
    go false true c e f g = refl
    go false false true e f g = refl
    go false false false e f g =
        let a = below-zero x h e in
        let b = below-zero y i f in
        let c = below-zero z j g in
        absurd (omega (arith, onℤ, sumℤ y z, sumℤ x (y +ℤ z)))

-- what p, q, r and the point are to each other, as numbers alone
numbers : (u v w l m n : ℤ) → u ≢ pos 0 → v ≢ pos 0 → w ≢ pos 0 → l ≢ pos 0 → m ≢ pos 0 → n ≢ pos 0 →
    pos 0 <ℤ (l +ℤ (m +ℤ n)) → m *ℤ u +ℤ (n *ℤ v +ℤ l *ℤ w) ≡ pos 0 →
    step (lt_z (pos 0) u) (lt_z (pos 0) v) (lt_z (pos 0) l) +ℤ (step (lt_z (pos 0) v) (lt_z (pos 0) w) (lt_z (pos 0) m) +ℤ step (lt_z (pos 0) w) (lt_z (pos 0) u) (lt_z (pos 0) n)) ≡
    one (lt_z (pos 0) l && (lt_z (pos 0) m && lt_z (pos 0) n))
numbers u v w l m n u0 v0 w0 l0 m0 n0 s z =
    let (a, a0) = sign-product m u m0 u0 in
    let (b, b0) = sign-product n v n0 v0 in
    let (c, c0) = sign-product l w l0 w0 in
    six-signs (lt_z (pos 0) u) (lt_z (pos 0) v) (lt_z (pos 0) w) (lt_z (pos 0) l) (lt_z (pos 0) m) (lt_z (pos 0) n) (some-above l m n s)
    (sym (λ i. same_signs (a i) (b i) (c i)) ∙ not-one-side (m *ℤ u) (n *ℤ v) (l *ℤ w) a0 b0 c0 z)

-- ---- two identities

-- left, as an expression of the solver
abbrev pub left_expr : Expr → Expr → Expr → Expr → Expr → Expr → Expr → Expr
left_expr ax ay bx by sx sy w = (bx :- ax) :* (sy :- ay :* w) :- (sx :- ax :* w) :* (by :- ay)

module _ (t : Shape) (s : Point) where
  three-lefts : left t.p t.q s +ℤ (left t.q t.r s +ℤ left t.r t.p s) ≡ area t *ℤ s.W
  three-lefts =
      ring9 (λ a b c d e f X Y W. (left_expr a b c d X Y W :+ (left_expr c d e f X Y W :+ left_expr e f a b X Y W), ((c :- a) :* (f :- b) :- (e :- a) :* (d :- b)) :* W))
      t.p.x t.p.y t.q.x t.q.y t.r.x t.r.y s.X s.Y s.W tt

  weighted-x : left t.q t.r s *ℤ (s.X -ℤ t.p.x *ℤ s.W) +ℤ (left t.r t.p s *ℤ (s.X -ℤ t.q.x *ℤ s.W) +ℤ left t.p t.q s *ℤ (s.X -ℤ t.r.x *ℤ s.W)) ≡ pos 0
  weighted-x =
      ring9 (λ a b c d e f X Y W. (left_expr c d e f X Y W :* (X :- a :* W) :+ (left_expr e f a b X Y W :* (X :- c :* W) :+ left_expr a b c d X Y W :* (X :- e :* W)), K (pos 0)))
      t.p.x t.p.y t.q.x t.q.y t.r.x t.r.y s.X s.Y s.W tt

  weighted-y : left t.q t.r s *ℤ (s.Y -ℤ t.p.y *ℤ s.W) +ℤ (left t.r t.p s *ℤ (s.Y -ℤ t.q.y *ℤ s.W) +ℤ left t.p t.q s *ℤ (s.Y -ℤ t.r.y *ℤ s.W)) ≡ pos 0
  weighted-y =
      ring9 (λ a b c d e f X Y W. (left_expr c d e f X Y W :* (Y :- b :* W) :+ (left_expr e f a b X Y W :* (Y :- d :* W) :+ left_expr a b c d X Y W :* (Y :- f :* W)), K (pos 0)))
      t.p.x t.p.y t.q.x t.q.y t.r.x t.r.y s.X s.Y s.W tt

-- how far the point's key is past A's
abbrev pub ahead : Form → Place → Point → ℤ
ahead f A s = key_at f s -ℤ key f A *ℤ s.W

ahead-parts : (f : Form) (A : Place) (s : Point) (m : ℤ) → m *ℤ ahead f A s ≡ f.along *ℤ (m *ℤ (s.X -ℤ A.x *ℤ s.W)) +ℤ f.across *ℤ (m *ℤ (s.Y -ℤ A.y *ℤ s.W))
ahead-parts f A s m =
    ring8 (λ a b x y X Y W m. (m :* ((a :* X :+ b :* Y) :- (a :* x :+ b :* y) :* W), a :* (m :* (X :- x :* W)) :+ b :* (m :* (Y :- y :* W))))
    f.along f.across A.x A.y s.X s.Y s.W m tt

two-sums : (a b x y z u v w : ℤ) → x +ℤ (y +ℤ z) ≡ pos 0 → u +ℤ (v +ℤ w) ≡ pos 0 → (a *ℤ x +ℤ b *ℤ u) +ℤ ((a *ℤ y +ℤ b *ℤ v) +ℤ (a *ℤ z +ℤ b *ℤ w)) ≡ pos 0
two-sums a b x y z u v w h k =
    ring8 (λ a b x y z u v w. ((a :* x :+ b :* u) :+ ((a :* y :+ b :* v) :+ (a :* z :+ b :* w)), a :* (x :+ (y :+ z)) :+ b :* (u :+ (v :+ w)))) a b x y z u v w tt ∙
    rw (h, k) (ring2 (λ a b. (a :* K (pos 0) :+ b :* K (pos 0), K (pos 0))) a b tt)

weighted : (f : Form) (t : Shape) (s : Point) →
    left t.q t.r s *ℤ ahead f t.p s +ℤ (left t.r t.p s *ℤ ahead f t.q s +ℤ left t.p t.q s *ℤ ahead f t.r s) ≡ pos 0
weighted f t s =
    (λ i. ahead-parts f t.p s (left t.q t.r s) i +ℤ (ahead-parts f t.q s (left t.r t.p s) i +ℤ ahead-parts f t.r s (left t.p t.q s) i)) ∙
    two-sums f.along f.across _ _ _ _ _ _ (weighted-x t s) (weighted-y t s)

-- ---- one triangle

-- where neither end has the point's key and the point is not on the line, three signs say it all
under-step : (f : Form) (A B : Place) (s : Point) → key f A *ℤ s.W ≢ key_at f s → key f B *ℤ s.W ≢ key_at f s → left A B s ≢ pos 0 →
    under f A B s ≡ step (lt_z (pos 0) (ahead f A s)) (lt_z (pos 0) (ahead f B s)) (lt_z (pos 0) (left A B s))
unfolding under
under-step f A B s a b l =
    let p_a = lt-zero (key f A *ℤ s.W) (key_at f s) in
    let p_b = lt-zero (key f B *ℤ s.W) (key_at f s) in
    let b_a = not-lt (key f A *ℤ s.W) (key_at f s) a ∙ ap not p_a in
    let b_b = not-lt (key f B *ℤ s.W) (key_at f s) b ∙ ap not p_b in
    let r = ap (lt_z (pos 0)) (left-swapped A B s) ∙ neg-above (left A B s) l in
    λ i. one (p_a i && b_b i && lt_z (pos 0) (left A B s)) -ℤ one (p_b i && b_a i && r i)

pub ahead-not : (f : Form) (A : Place) (s : Point) → key f A *ℤ s.W ≢ key_at f s → ahead f A s ≢ pos 0
ahead-not f A s n e = n (sym (equal-of-zero (key_at f s) (key f A *ℤ s.W) e))

-- the arrows of a triangle under a point come to 1 if it is inside, else to 0
pub one-triangle : (f : Form) (t : Shape) (s : Point) → pos 0 <ℤ area t → Off f t s →
    under f t.p t.q s +ℤ (under f t.q t.r s +ℤ under f t.r t.p s) ≡ one (inside t s)
one-triangle f t s h o =
    (λ i. under-step f t.p t.q s o.key-p o.key-q o.off-pq i +ℤ
    (under-step f t.q t.r s o.key-q o.key-r o.off-qr i +ℤ under-step f t.r t.p s o.key-r o.key-p o.off-rp i)) ∙
    numbers (ahead f t.p s) (ahead f t.q s) (ahead f t.r s) (left t.p t.q s) (left t.q t.r s) (left t.r t.p s)
    (ahead-not f t.p s o.key-p) (ahead-not f t.q s o.key-q) (ahead-not f t.r s o.key-r) o.off-pq o.off-qr o.off-rp
    (subst (λ k. pos 0 <ℤ k) (sym (three-lefts t s)) (positive-times (area t) s.W h o.weight)) (weighted f t s)

-- ---- the test of Inside

pub inside-yes : (t : Shape) (s : Point) → inside t s ≡ true → Inside t s
inside-yes t s e =
    let a = lt_z (pos 0) (left t.p t.q s) in
    let b = lt_z (pos 0) (left t.q t.r s) in
    let c = lt_z (pos 0) (left t.r t.p s) in
    let r = and_right a (b && c) e in
    record { pq = lt_z-true _ _ (and_left a (b && c) e); qr = lt_z-true _ _ (and_left b c r); rp = lt_z-true _ _ (and_right b c r) }

pub yes-inside : (t : Shape) (s : Point) → Inside t s → inside t s ≡ true
yes-inside t s h = and_both (lt-lt_z _ _ h.pq) (and_both (lt-lt_z _ _ h.qr) (lt-lt_z _ _ h.rp))
