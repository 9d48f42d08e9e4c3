-- W7: two rows of which one has all its corners below those of the other, along x or along y, have nothing to do with each other. P gives the
-- place of each node. Assumes nothing.
use Rattle.std.specs.Prelude.{Bool, true, false, ◌⊎◌, ◌≡◌, refl, ℕ, ◌≤◌, ◌<◌, ℤ, pos, negsuc, neg_ℤ, nat_abs, ◌+ℤ◌, ◌-ℤ◌, ◌*ℤ◌, ◌≤ℤ◌, ◌<ℤ◌}
use Rattle.std.proofs.Common.{inl, inr, ◌∙◌, arith}
use Rattle.lists.specs.Lists.{cases, All, nil, cons}
use Rattle.lists.specs.ListsLaw.{All-head, All-tail, All-at, All-imp, All-both}
use Rattle.whole.specs.Diff.{onℤ, sumℤ, subℤ}
use Rattle.whole.specs.Bound.{absℤ}
use Rattle.whole.specs.Ring.{K, ◌:+◌, ◌:-◌, ◌:*◌, neg, ring2, ring4}
use Rattle.whole.specs.Order.{lt-or-le}
use Rattle.meaning.specs.declared.Place.{Place}
use Rattle.meaning.specs.declared.Tri.{Tri}
use Rattle.meaning.specs.Mesh.{arrows}
use Rattle.meaning.specs.Lawful.{InRange}
use Rattle.meaning.specs.Proper.{Point, area, Inside, Share}
use Rattle.proper.specs.Convex.{Form, val, spot}
use Rattle.proper.specs.Segment.{form-straight, not-over}
use Rattle.proper.specs.Sharing.{form-out}
use Rattle.proper.specs.Tested.{share-exact}
use Rattle.pairs.specs.Pair.{shape_by, corners, grave}
use Rattle.columns.specs.Columns.{shifted, low, high}
use Rattle.sweep.specs.Touch.{Touching, touches-is, side-long}
use Rattle.sweep.specs.Gravest.{GraveIs, touch, overlap, clear, grave-is}

-- ---- a line that parts two rows

-- what holds of the corners holds of the ends of the sides
ends-too : {Q : ℕ → Type 0} (t : Tri) → All Q (corners t) → All (λ e. Q e.from × Q e.to) (arrows t)
ends-too t (cons p (cons q (cons r nil))) = cons (p, q) (cons (q, r) (cons (r, p) nil))

-- a form above 0 at no corner of t, and at all corners of u
module _ (f : Form) (P : ℕ → Place) (t u : Tri) (a : pos 0 <ℤ area (shape_by P t)) (under : All (λ k. val f (spot (P k)) ≤ℤ pos 0) (corners t)) where
  untouched : All (λ k. pos 0 <ℤ val f (spot (P k))) (corners u) → Touching P t u → ⊥
  untouched over T =
      let e = All-at (ends-too t under) T.side-of in
      not-over (P T.side.from) (P T.side.to) (P T.corner) T.on.on_line T.on.within (side-long P t a T.side-of) (λ Q. val f (spot Q)) (form-straight f)
      e.0 e.1 (All-at over T.corner-of)

  not-past : (s : Point) → Inside (shape_by P t) s → val f s ≤ℤ pos 0
  not-past s i = go (lt-or-le (pos 0) (val f s))
    where
      go : (pos 0 <ℤ val f s) ⊎ (val f s ≤ℤ pos 0) → val f s ≤ℤ pos 0
      go (inl h) = absurd (form-out f (shape_by P t) s a i (All-head under) (All-head (All-tail under)) (All-head (All-tail (All-tail under))) h)
      go (inr h) = h

-- ---- lines across, between two neighbouring whole numbers

-- y, or x, of a point, times its W
abbrev across : Bool → Point → ℤ
across y s = cases y s.Y s.X

abbrev coord : Bool → Place → ℤ
coord y a = across y (spot a)

-- how far y, or x, is past v, and how far it is short of v + 1
past : Bool → ℤ → Form
past true v = record { a = pos 0; b = pos 1; c = neg_ℤ v }
past false v = record { a = pos 1; b = pos 0; c = neg_ℤ v }

short : Bool → ℤ → Form
short true v = record { a = pos 0; b = negsuc 0; c = v +ℤ pos 1 }
short false v = record { a = negsuc 0; b = pos 0; c = v +ℤ pos 1 }

past_is : (y : Bool) (v : ℤ) (s : Point) → val (past y v) s ≡ across y s -ℤ v *ℤ s.W
unfolding val past
past_is true v s = ring4 (λ x y w v. (K (pos 0) :* x :+ K (pos 1) :* y :+ neg v :* w, y :- v :* w)) s.X s.Y s.W v tt
past_is false v s = ring4 (λ x y w v. (K (pos 1) :* x :+ K (pos 0) :* y :+ neg v :* w, x :- v :* w)) s.X s.Y s.W v tt

short-is : (y : Bool) (v : ℤ) (s : Point) → val (short y v) s ≡ (v *ℤ s.W +ℤ s.W) -ℤ across y s
unfolding val short
short-is true v s = ring4 (λ x y w v. (K (pos 0) :* x :+ K (negsuc 0) :* y :+ (v :+ K (pos 1)) :* w, (v :* w :+ w) :- y)) s.X s.Y s.W v tt
short-is false v s = ring4 (λ x y w v. (K (negsuc 0) :* x :+ K (pos 0) :* y :+ (v :+ K (pos 1)) :* w, (v :* w :+ w) :- x)) s.X s.Y s.W v tt

-- their signs, up to v and beyond it
module _ (y : Bool) (v : ℤ) (A : Place) where
  past-at : val (past y v) (spot A) ≡ coord y A -ℤ v
  past-at = past_is y v (spot A) ∙ ring2 (λ z v. (z :- v :* K (pos 1), z :- v)) (coord y A) v tt

  short-at : val (short y v) (spot A) ≡ (v +ℤ pos 1) -ℤ coord y A
  short-at = short-is y v (spot A) ∙ ring2 (λ z v. ((v :* K (pos 1) :+ K (pos 1)) :- z, (v :+ K (pos 1)) :- z)) (coord y A) v tt

  up_to : coord y A ≤ℤ v → (val (past y v) (spot A) ≤ℤ pos 0) × (pos 0 <ℤ val (short y v) (spot A))
  up_to h = (rw past-at (omega (arith, onℤ, subℤ (coord y A) v)), rw short-at (omega (arith, onℤ, sumℤ v (pos 1), subℤ (v +ℤ pos 1) (coord y A))))

  beyond : v <ℤ coord y A → (pos 0 <ℤ val (past y v) (spot A)) × (val (short y v) (spot A) ≤ℤ pos 0)
  beyond h = (rw past-at (omega (arith, onℤ, subℤ (coord y A) v)), rw short-at (omega (arith, onℤ, sumℤ v (pos 1), subℤ (v +ℤ pos 1) (coord y A))))

-- ---- coordinates in range

near : (y : Bool) (a : Place) → InRange a → nat_abs (coord y a) ≤ 1_048_576
near true a h = h.y-near
near false a h = h.x-near

at_most : (z : ℤ) (k : ℕ) → nat_abs z ≤ 1_048_576 → shifted z ≤ k → z ≤ℤ (pos k -ℤ pos 1_048_576)
at_most z k h l = omega (arith, onℤ, absℤ z, absℤ (z +ℤ pos 1_048_576), sumℤ z (pos 1_048_576), subℤ (pos k) (pos 1_048_576))

above : (z : ℤ) (k : ℕ) → nat_abs z ≤ 1_048_576 → k < shifted z → (pos k -ℤ pos 1_048_576) <ℤ z
above z k h l = omega (arith, onℤ, absℤ z, absℤ (z +ℤ pos 1_048_576), sumℤ z (pos 1_048_576), subℤ (pos k) (pos 1_048_576))

-- the places of a row's corners are in range, and it has an area
pub record Solid (P : ℕ → Place) (t : Tri) : Type 0 where
  pub ranges : All (λ k. InRange (P k)) (corners t)
  pub area-above : pos 0 <ℤ area (shape_by P t)

module _ (y : Bool) (P : ℕ → Place) (t u : Tri) (a : Solid P t) (b : Solid P u) (h : high y P t < low y P u) where
  v : ℤ
  v = pos (high y P t) -ℤ pos 1_048_576

  lower : All (λ k. (val (past y v) (spot (P k)) ≤ℤ pos 0) × (pos 0 <ℤ val (short y v) (spot (P k)))) (corners t)
  unfolding v
  lower = All-imp (λ k c. up_to y _ (P k) (at_most (coord y (P k)) (high y P t) (near y (P k) c.0) c.1)) (All-both a.ranges (cons (omega arith) (cons (omega arith) (cons (omega arith) nil))))

  upper : All (λ k. (pos 0 <ℤ val (past y v) (spot (P k))) × (val (short y v) (spot (P k)) ≤ℤ pos 0)) (corners u)
  unfolding v
  upper = All-imp (λ k c. beyond y _ (P k) (above (coord y (P k)) (high y P t) (near y (P k) c.0) c.1)) (All-both b.ranges (cons (omega arith) (cons (omega arith) (cons (omega arith) nil))))

  unshared : ¬ Share (shape_by P t) (shape_by P u)
  unshared s =
      let p = not-past (past y v) P t u a.area-above (All-imp (λ k c. c.0) lower) s.point s.in-first in
      let q = not-past (short y v) P u t b.area-above (All-imp (λ k c. c.1) upper) s.point s.in-second in
      let z = across y s.point in
      let w = s.point.W in
      let e = past_is y v s.point in
      let f = short-is y v s.point in
      omega (arith, onℤ, s.weight, subℤ z (v *ℤ w), sumℤ (v *ℤ w) w, subℤ (v *ℤ w +ℤ w) z)

  -- ROWS WITH ALL CORNERS OF ONE BELOW THOSE OF THE OTHER HAVE NOTHING TO DO WITH EACH OTHER
  pub boxes-clear : grave P t u ≡ 0
  boxes-clear = go (grave-is P t u)
    where
      go : {k : ℕ} → GraveIs P t u k → k ≡ 0
      go (touch (inl e)) = absurd (untouched (past y v) P t u a.area-above (All-imp (λ k c. c.0) lower) (All-imp (λ k c. c.0) upper) (touches-is P t u e))
      go (touch (inr e)) = absurd (untouched (short y v) P u t b.area-above (All-imp (λ k c. c.1) upper) (All-imp (λ k c. c.1) lower) (touches-is P u t e))
      go (overlap e) = absurd (unshared ((share-exact (shape_by P t) (shape_by P u) a.area-above b.area-above).0 e))
      go clear = refl
