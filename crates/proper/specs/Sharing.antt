-- Two triangles share an interior point exactly if they are not apart: no side of either has the other beyond it. Assumes nothing.
use Rattle.std.specs.Prelude.{◌≡◌, refl, [], ◌∷◌, ◌⊎◌, ℕ, suc, ◌+◌, ◌<◌, ℤ, pos, ◌+ℤ◌, ◌*ℤ◌, ◌≤ℤ◌, ◌<ℤ◌}
use Rattle.std.proofs.Common.{sym, ◌∙◌, inl, inr, arith}
use Rattle.whole.specs.Diff.{up, dn, onℤ, sumℤ, mulℤ}
use Rattle.whole.specs.Ring.{Expr, X, K, ◌:+◌, ◌:-◌, ◌:*◌, solve, ring6}
use Rattle.whole.specs.Order.{lt-or-le, lt_not_le, nonneg-times, nonpos-times, positive-times, times-le}
use Rattle.meaning.specs.declared.Place.{Place}
use Rattle.meaning.specs.Mesh.{turn}
use Rattle.meaning.specs.Proper.{Shape, Point, left, area, Inside, Share}
use Rattle.laws.specs.Area.{turn_expr, turn-cycle, turn-from, turn-to}
use Rattle.proper.specs.Apart.{NoneLeft, PartedBy, by-pq, by-qr, by-rp, Apart, by_first, by-second}
use Rattle.proper.specs.Convex.{Form, val, val-sum, val-times, side, side_left, spot, ◌⊕◌, ◌⊙◌, Above, above}
use Rattle.proper.specs.Helly.{Meet, wider, six}

pub share_back : {s t : Shape} → Share s t → Share t s
share_back h = record { point = h.point; weight = h.weight; in-first = h.in-second; in-second = h.in-first }

-- ---- forms at corners
pub left-turn : (a b c : Place) → left a b (spot c) ≡ turn a b c
left-turn a b c = ring6 (λ ax ay bx by cx cy. ((bx :- ax) :* (cy :- ay :* K (pos 1)) :- (cx :- ax :* K (pos 1)) :* (by :- ay), turn_expr ax ay bx by cx cy)) a.x a.y b.x b.y c.x c.y tt

pub side-turn : (a b c : Place) → val (side a b) (spot c) ≡ turn a b c
side-turn a b c = side_left a b (spot c) ∙ left-turn a b c

-- the point in a triangle's middle
abbrev middle : Shape → Point
middle t = spot t.p ⊕ spot t.q ⊕ spot t.r

val-middle : (f : Form) (t : Shape) → val f (middle t) ≡ val f (spot t.p) +ℤ val f (spot t.q) +ℤ val f (spot t.r)
val-middle f t = val-sum f (spot t.p ⊕ spot t.q) (spot t.r) ∙ rw (val-sum f (spot t.p) (spot t.q))

-- ---- a point of t's inside where f is above 0, near a corner where f is
abbrev Near : Shape → Form → Type 0
Near t f = Meet (λ s. Above (side t.p t.q) s × Above (side t.q t.r) s × Above (side t.r t.p) s × Above f s)

-- for each side of s a point of t's inside that is left of it
abbrev Nears : Shape → Shape → Type 0
Nears t s = Near t (side s.p s.q) × Near t (side s.q s.r) × Near t (side s.r s.p)

pushed : (n : ℕ) (u v : ℤ) → dn v < n → pos 0 <ℤ u → pos 0 <ℤ (pos n *ℤ u +ℤ v)
pushed n u v h i = omega (arith, onℤ, mulℤ (pos n) (pos 1), sumℤ (pos n *ℤ u) v, times-le (pos n) (pos 1) u (omega (arith, onℤ)) (omega (arith, onℤ)))

kept : (n : ℕ) (u v : ℤ) → pos 0 ≤ℤ u → pos 0 <ℤ v → pos 0 <ℤ (pos n *ℤ u +ℤ v)
kept n u v h i = omega (arith, onℤ, sumℤ (pos n *ℤ u) v, nonneg-times (pos n) u (omega (arith, onℤ)) h)

val-push : (f : Form) (n : ℕ) (s t : Point) → val f (pos n ⊙ s ⊕ t) ≡ pos n *ℤ val f s +ℤ val f t
val-push f n s t = val-sum f (pos n ⊙ s) t ∙ rw (val-times f (pos n) s)

module _ (t : Shape) (h : pos 0 <ℤ area t) where
  abbrev Sides : (Form → Type 0) → Type 0
  Sides P = P (side t.p t.q) × P (side t.q t.r) × P (side t.r t.p)

  at_p : Sides (λ f. pos 0 ≤ℤ val f (spot t.p))
  at_p = rw (side-turn t.p t.q t.p, side-turn t.q t.r t.p, side-turn t.r t.p t.p)
      (omega (arith, onℤ, turn-from t.p t.q, turn-cycle t.p t.q t.r, turn-to t.r t.p))

  at-q : Sides (λ f. pos 0 ≤ℤ val f (spot t.q))
  at-q = rw (side-turn t.p t.q t.q, side-turn t.q t.r t.q, side-turn t.r t.p t.q)
      (omega (arith, onℤ, turn-to t.p t.q, turn-from t.q t.r, turn-cycle t.p t.q t.r, turn-cycle t.q t.r t.p))

  at-r : Sides (λ f. pos 0 ≤ℤ val f (spot t.r))
  at-r = rw (side-turn t.p t.q t.r, side-turn t.q t.r t.r, side-turn t.r t.p t.r)
      (omega (arith, onℤ, turn-to t.q t.r, turn-from t.r t.p))

  middle_of : (a b : Place) (x y z : ℤ) → turn a b t.p ≡ x → turn a b t.q ≡ y → turn a b t.r ≡ z →
      up x + up y + up z ≡ up (area t) → dn x + dn y + dn z ≡ dn (area t) → pos 0 <ℤ val (side a b) (middle t)
  middle_of a b x y z e f g i j =
      rw (val-middle (side a b) t, side-turn a b t.p, side-turn a b t.q, side-turn a b t.r, e, f, g) (omega (arith, onℤ, sumℤ x y, sumℤ (x +ℤ y) z))

  at-middle : Sides (λ f. pos 0 <ℤ val f (middle t))
  at-middle = (
    middle_of t.p t.q _ _ _ (turn-from t.p t.q) (turn-to t.p t.q) refl (omega arith) (omega arith),
    middle_of t.q t.r _ _ _ (sym (turn-cycle t.p t.q t.r)) (turn-from t.q t.r) (turn-to t.q t.r) (omega arith) (omega arith),
    middle_of t.r t.p _ _ _ (turn-to t.r t.p) (sym (turn-cycle t.q t.r t.p) ∙ sym (turn-cycle t.p t.q t.r)) (turn-from t.r t.p) (omega arith) (omega arith),
  )

  near : (f : Form) (c : Place) → Sides (λ g. pos 0 ≤ℤ val g (spot c)) → Above f (spot c) → Near t f
  near f c i k =
      let n = suc (dn (val f (middle t))) in
      let m = at-middle in
      record {
        at = pos n ⊙ spot c ⊕ middle t;
        heavy = omega (arith, onℤ, sumℤ (pos n *ℤ pos 1) (pos 3));
        mem = (
          rw (val-push (side t.p t.q) n (spot c) (middle t)) (kept n _ _ i.0 m.0),
          rw (val-push (side t.q t.r) n (spot c) (middle t)) (kept n _ _ i.1 m.1),
          rw (val-push (side t.r t.p) n (spot c) (middle t)) (kept n _ _ i.2 m.2),
          rw (val-push f n (spot c) (middle t)) (pushed n _ _ (omega arith) k),
        );
      }

  -- no corner of t is left of the line from a to b, or t has a point inside that is
  none-left-or-near : (a b : Place) → NoneLeft a b t ⊎ Near t (side a b)
  none-left-or-near a b = go (lt-or-le (pos 0) (turn a b t.p)) (lt-or-le (pos 0) (turn a b t.q)) (lt-or-le (pos 0) (turn a b t.r))
    where
      go : (pos 0 <ℤ turn a b t.p) ⊎ (turn a b t.p ≤ℤ pos 0) → (pos 0 <ℤ turn a b t.q) ⊎ (turn a b t.q ≤ℤ pos 0) → (pos 0 <ℤ turn a b t.r) ⊎ (turn a b t.r ≤ℤ pos 0)
          → NoneLeft a b t ⊎ Near t (side a b)
      go (inl l) m n = inr (near (side a b) t.p at_p (rw (side-turn a b t.p) l))
      go (inr k) (inl l) n = inr (near (side a b) t.q at-q (rw (side-turn a b t.q) l))
      go (inr k) (inr l) (inl m) = inr (near (side a b) t.r at-r (rw (side-turn a b t.r) m))
      go (inr k) (inr l) (inr m) = inl (record { at_p = k; at-q = l; at-r = m })

  parted-or-near : (s : Shape) → PartedBy s t ⊎ Nears t s
  parted-or-near s = go (none-left-or-near s.p s.q) (none-left-or-near s.q s.r) (none-left-or-near s.r s.p)
    where
      go : NoneLeft s.p s.q t ⊎ Near t (side s.p s.q) → NoneLeft s.q s.r t ⊎ Near t (side s.q s.r) → NoneLeft s.r s.p t ⊎ Near t (side s.r s.p) →
          PartedBy s t ⊎ Nears t s
      go (inl k) m n = inl (by-pq k)
      go (inr k) (inl l) n = inl (by-qr l)
      go (inr k) (inr l) (inl m) = inl (by-rp m)
      go (inr k) (inr l) (inr m) = inr (k, l, m)

-- ---- the theorem
inside : (t : Shape) (s : Point) → Above (side t.p t.q) s → Above (side t.q t.r) s → Above (side t.r t.p) s → Inside t s
inside t s h i j = record {
  pq = rw (side_left t.p t.q s) at h;
  qr = rw (side_left t.q t.r s) at i;
  rp = rw (side_left t.r t.p s) at j;
}

share : (s t : Shape) → Nears s t → Nears t s → Share s t
share s t m n =
    let g = six _ _ _ (above (side s.p s.q)) (above (side s.q s.r)) (above (side s.r s.p))
    _ _ _ (above (side t.p t.q)) (above (side t.q t.r)) (above (side t.r t.p))
    m.0 m.1 m.2 (swap n.0) (swap n.1) (swap n.2) in
    record {
      point = g.at;
      weight = g.heavy;
      in-first = inside s g.at g.mem.3.0 g.mem.3.1 g.mem.3.2;
      in-second = inside t g.at g.mem.0 g.mem.1 g.mem.2;
    }
  where
    swap : {A B C D : Point → Type 0} → Meet (λ s. A s × B s × C s × D s) → Meet (λ s. D s × A s × B s × C s)
    swap m = wider (λ s h. (h.3, h.0, h.1, h.2)) m

pub apart-or-share : (s t : Shape) → pos 0 <ℤ area s → pos 0 <ℤ area t → Apart s t ⊎ Share s t
apart-or-share s t h i = go (parted-or-near t i s) (parted-or-near s h t)
  where
    go : PartedBy s t ⊎ Nears t s → PartedBy t s ⊎ Nears s t → Apart s t ⊎ Share s t
    go (inl k) m = inl (by_first k)
    go (inr k) (inl l) = inl (by-second l)
    go (inr k) (inr l) = inr (share s t l k)

-- ---- and not both: a point by its weights at the corners
abbrev value_expr : Expr → Expr → Expr → Expr
value_expr x y w = X 0 :* x :+ X 1 :* y :+ X 2 :* w

abbrev left_expr : Expr → Expr → Expr → Expr → Expr
left_expr px py qx qy = (qx :- px) :* (X 10 :- py :* X 11) :- (X 9 :- px :* X 11) :* (qy :- py)

pub weights : (f : Form) (t : Shape) (s : Point)
    → area t *ℤ val f s ≡ left t.q t.r s *ℤ val f (spot t.p) +ℤ left t.r t.p s *ℤ val f (spot t.q) +ℤ left t.p t.q s *ℤ val f (spot t.r)
unfolding val
weights f t s = solve (f.a ∷ f.b ∷ f.c ∷ t.p.x ∷ t.p.y ∷ t.q.x ∷ t.q.y ∷ t.r.x ∷ t.r.y ∷ s.X ∷ s.Y ∷ s.W ∷ [])
    (turn_expr (X 3) (X 4) (X 5) (X 6) (X 7) (X 8) :* value_expr (X 9) (X 10) (X 11))
    (left_expr (X 5) (X 6) (X 7) (X 8) :* value_expr (X 3) (X 4) (K (pos 1)) :+ left_expr (X 7) (X 8) (X 3) (X 4) :* value_expr (X 5) (X 6) (K (pos 1)) :+ left_expr (X 3) (X 4) (X 5) (X 6) :* value_expr (X 7) (X 8) (K (pos 1)))
    tt

sum3-le : (u v w x y z : ℤ) → pos 0 <ℤ u → pos 0 <ℤ v → pos 0 <ℤ w → x ≤ℤ pos 0 → y ≤ℤ pos 0 → z ≤ℤ pos 0 → (u *ℤ x +ℤ v *ℤ y +ℤ w *ℤ z) ≤ℤ pos 0
sum3-le u v w x y z h i j k l m =
    omega (
      arith,
      onℤ,
      nonpos-times u x (omega (arith, onℤ)) k,
      nonpos-times v y (omega (arith, onℤ)) l,
      nonpos-times w z (omega (arith, onℤ)) m,
      sumℤ (u *ℤ x) (v *ℤ y),
      sumℤ (u *ℤ x +ℤ v *ℤ y) (w *ℤ z),
    )

-- a form that is above 0 at no corner is so at no point inside
pub form-out : (f : Form) (t : Shape) (s : Point) → pos 0 <ℤ area t → Inside t s →
    val f (spot t.p) ≤ℤ pos 0 → val f (spot t.q) ≤ℤ pos 0 → val f (spot t.r) ≤ℤ pos 0 → pos 0 <ℤ val f s → ⊥
form-out f t s h i a b c l = lt_not_le (positive-times (area t) (val f s) h l) (rw (weights f t s) (sum3-le _ _ _ _ _ _ i.qr i.rp i.pq a b c))

none-left-out : (a b : Place) (t : Shape) (s : Point) → pos 0 <ℤ area t → NoneLeft a b t → Inside t s → pos 0 <ℤ left a b s → ⊥
none-left-out a b t s h o i l =
    form-out (side a b) t s h i (rw (side-turn a b t.p) o.at_p) (rw (side-turn a b t.q) o.at-q) (rw (side-turn a b t.r) o.at-r) (rw (side_left a b s) l)

parted-out : (s t : Shape) → pos 0 <ℤ area t → (m : Point) → Inside s m → Inside t m → PartedBy s t → ⊥
parted-out s t h m i j (by-pq o) = none-left-out s.p s.q t m h o j i.pq
parted-out s t h m i j (by-qr o) = none-left-out s.q s.r t m h o j i.qr
parted-out s t h m i j (by-rp o) = none-left-out s.r s.p t m h o j i.rp

pub apart-not-share : (s t : Shape) → pos 0 <ℤ area s → pos 0 <ℤ area t → Apart s t → Share s t → ⊥
apart-not-share s t h i (by_first o) g = parted-out s t i g.point g.in-first g.in-second o
apart-not-share s t h i (by-second o) g = parted-out t s h g.point g.in-second g.in-first o
