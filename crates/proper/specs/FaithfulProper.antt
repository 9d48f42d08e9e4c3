-- A lawful, faithful mesh is proper: two nodes at one place, a node strictly inside an edge, and two triangles with an interior point in
-- common are each one point as two sums of corners. Assumes nothing.
use mathlib.Core.List.{Memᴰ}
use Rattle.std.specs.Prelude.{◌≢◌, ◌≡◌, refl, ℕ, ◌+◌, ◌*◌, ◌<◌, ℤ, pos, ◌+ℤ◌, ◌*ℤ◌, length, ◌<ℤ◌}
use Rattle.std.proofs.Common.{sym, ap, ◌∙◌, arith}
use Rattle.std.proofs.Math.Decide.{ℕ_discrete}
use Rattle.lists.specs.ListsLaw.{All-of}
use Rattle.lists.specs.MembersLaw.{at_mem, count-some}
use Rattle.whole.specs.Diff.{onℤ}
use Rattle.whole.specs.Ring.{K, ◌:+◌, ◌:*◌, ring3, ring4, ring7}
use Rattle.whole.specs.Order.{positive-times}
use Rattle.meaning.specs.declared.Tri.{Tri}
use Rattle.meaning.specs.Mesh.{Mesh, Arrow, tri, arrows, holds_node, at}
use Rattle.meaning.specs.Lawful.{Lawful}
use Rattle.meaning.specs.Proper.{Shape, Point, left, area, Inside, Share, StrictlyInside, shape, Proper}
use Rattle.laws.specs.Edges.{here, here_self, here-no}
use Rattle.laws.specs.Pairs.{same_row}
use Rattle.laws.specs.RowMean.{CornerOf, is-p, is-q, is-r, corner-of}
use Rattle.proper.specs.Convex.{Form, val, spot}
use Rattle.proper.specs.Sharing.{weights}
use Rattle.proper.specs.Between.{Between, inside-between, as-nat}
use Rattle.proper.specs.Sums.{Sum, mix, level, one, two, by-x, by-y, by_one, SamePoint, SameSum, Faithful, coordinate-affine}
use Rattle.proper.specs.Corners.{SumOf, above-pqr, row-edge, peak, full-row}

-- a sum of two nodes that is one node
only-node : (k x y α β : ℕ) → 0 < α → 0 < β → SameSum (one k (α + β)) (two x y α β) → (x ≡ k) × (y ≡ k)
only-node k x y α β hα hβ f = (is x y α β (sum x y α β f) (ℕ_discrete x k) (ℕ_discrete y k) hα, is y x β α (omega (arith, sum x y α β f)) (ℕ_discrete y k) (ℕ_discrete x k) hβ)
  where
    sum : (x y α β : ℕ) → SameSum (one k (α + β)) (two x y α β) → α + β ≡ α * here k x + β * here k y
    sum x y α β f =
        let e : pos ((α + β) * here k k) ≡ pos (α * here k x + β * here k y) = f (peak k) in
        let g : (α + β) * here k k ≡ (α + β) * 1 = ap (λ n. (α + β) * n) (here_self k) in
        omega (arith, onℤ)

    is : (x y α β : ℕ) → α + β ≡ α * here k x + β * here k y → Dec (x ≡ k) → Dec (y ≡ k) → 0 < α → x ≡ k
    is x y α β e (yes p) d h = p
    is x y α β e (no p) (yes q) h =
        let a : α * here k x ≡ α * 0 = ap (λ n. α * n) (here-no k x p) in
        let b : β * here k y ≡ β * 1 = ap (λ n. β * n) (ap (here k) q ∙ here_self k) in
        absurd (omega arith)
    is x y α β e (no p) (no q) h =
        let a : α * here k x ≡ α * 0 = ap (λ n. α * n) (here-no k x p) in
        let b : β * here k y ≡ β * 0 = ap (λ n. β * n) (here-no k y q) in
        absurd (omega arith)

-- an interior point: its weights at the corners, times n, are areas, all above 0
record InsideSum (t : Shape) (s : Point) (n : ℤ) : Type 0 where
  a : ℕ
  b : ℕ
  c : ℕ
  a-above : 0 < a
  b-above : 0 < b
  c-above : 0 < c
  on : (f : Form) → pos a *ℤ val f (spot t.p) +ℤ pos b *ℤ val f (spot t.q) +ℤ pos c *ℤ val f (spot t.r) ≡ n *ℤ (area t *ℤ val f s)

inside-sum : (t : Shape) (s : Point) (n : ℤ) → Inside t s → pos 0 <ℤ n → InsideSum t s n
inside-sum t s n i h =
    let a = as-nat (n *ℤ left t.q t.r s) (positive-times n (left t.q t.r s) h i.qr) in
    let b = as-nat (n *ℤ left t.r t.p s) (positive-times n (left t.r t.p s) h i.rp) in
    let c = as-nat (n *ℤ left t.p t.q s) (positive-times n (left t.p t.q s) h i.pq) in
    record {
      a = a.0;
      b = b.0;
      c = c.0;
      a-above = a.1;
      b-above = b.1;
      c-above = c.1;
      on = λ f.
          (λ k. sym a.2 k *ℤ val f (spot t.p) +ℤ sym b.2 k *ℤ val f (spot t.q) +ℤ sym c.2 k *ℤ val f (spot t.r))
          ∙ ring7 (λ n u v w x y z. (n :* u :* x :+ n :* v :* y :+ n :* w :* z, n :* (u :* x :+ v :* y :+ w :* z))) n (left t.q t.r s) (left t.r t.p s) (left t.p t.q s)
          (val f (spot t.p)) (val f (spot t.q)) (val f (spot t.r)) tt
          ∙ ap (λ z. n *ℤ z) (sym (weights f t s));
    }

-- ---- sums of corners that are one node, or two

corner-sum : (t : Tri) (w : ℕ) {k : ℕ} → CornerOf t k → SumOf t (one k w)
corner-sum t w is-p = (w, 0, 0, λ φ. ring4 (λ w u v x. (w :* u :+ K (pos 0) :* v :+ K (pos 0) :* x, w :* u)) (pos w) (φ t.p) (φ t.q) (φ t.r) tt)
corner-sum t w is-q = (0, w, 0, λ φ. ring4 (λ w u v x. (K (pos 0) :* u :+ w :* v :+ K (pos 0) :* x, w :* v)) (pos w) (φ t.p) (φ t.q) (φ t.r) tt)
corner-sum t w is-r = (0, 0, w, λ φ. ring4 (λ w u v x. (K (pos 0) :* u :+ K (pos 0) :* v :+ w :* x, w :* x)) (pos w) (φ t.p) (φ t.q) (φ t.r) tt)

module _ (m : Mesh) (law : Lawful m) where
  -- a node is a corner of some row
  pub node_row : (k : ℕ) → k < length m.nodes → (t : Tri) × Memᴰ t m.tris × CornerOf t k
  node_row k h = let r = count-some (holds_node k) m.tris (law.used k h) in (r.0, r.1, corner-of r.0 k r.2)

  module _ (faithful : Faithful m) where
    -- sums of the corners of rows, in whatever form they are given
    one-sum-of : {t u : Tri} {F G : Sum} → Memᴰ t m.tris → Memᴰ u m.tris → SumOf t F → SumOf u G → SamePoint m F G → SameSum F G
    one-sum-of {t} {u} i j f g same φ =
        sym (f.3 φ)
        ∙ faithful.one-sum (mix t f.0 f.1 f.2) (mix u g.0 g.1 g.2) i j (λ ψ k. f.3 ψ ∙ same ψ k ∙ sym (g.3 ψ)) φ
        ∙ g.3 φ

    places-differ : (j k : ℕ) → j < k → k < length m.nodes → at m j ≢ at m k
    places-differ j k l h e =
        let r = node_row j (omega arith) in
        let s = node_row k h in
        let f = one-sum-of r.1 s.1 (corner-sum r.0 1 r.2) (corner-sum s.0 1 s.2) same (peak k) in
        let g : pos (1 * here k j) ≡ pos (1 * here k k) = f in
        omega (arith, onℤ, here_self k, here-no k j (omega arith))
      where
        same : SamePoint m (one j 1) (one k 1)
        same φ by-x = ap (λ P. pos 1 *ℤ P.x) e
        same φ by-y = ap (λ P. pos 1 *ℤ P.y) e
        same φ by_one = refl

    none_inside : (k : ℕ) → k < length m.nodes → {t : Tri} → Memᴰ t m.tris → {e : Arrow} → Memᴰ e (arrows t) → ¬ StrictlyInside (at m e.from) (at m e.to) (at m k)
    none_inside k h {t} i {e} j s =
        let E = row-edge m law i j in
        let r = node_row k h in
        let w = inside-between (at m e.from) (at m e.to) (at m k) E.long s in
        let f = one-sum-of r.1 i (corner-sum r.0 (w.α + w.β) r.2) (E.sum w.α w.β) (same w) in
        let g = only-node k e.from e.to w.α w.β w.α-above w.β-above f in
        E.apart (g.0 ∙ sym g.1)
      where
        same : (w : Between (at m e.from) (at m e.to) (at m k)) → SamePoint m (one k (w.α + w.β)) (two e.from e.to w.α w.β)
        same w φ by-x = w.on-x
        same w φ by-y = w.on-y
        same w φ by_one = ap pos (omega arith)

    -- two rows with a point inside both
    shared-row : {t u : Tri} → Memᴰ t m.tris → Memᴰ u m.tris → Share (shape m t) (shape m u) → t ≡ u
    shared-row {t} {u} i j s =
        let S = inside-sum (shape m t) s.point (area (shape m u)) s.in-first (above-pqr m law j) in
        let U = inside-sum (shape m u) s.point (area (shape m t)) s.in-second (above-pqr m law i) in
        let f = faithful.one-sum (mix t S.a S.b S.c) (mix u U.a U.b U.c) i j (same S U) in
        full-row m law (mix t S.a S.b S.c) (mix u U.a U.b U.c) i j f S.a-above S.b-above S.c-above
      where
        swap : (a b x : ℤ) → a *ℤ (b *ℤ x) ≡ b *ℤ (a *ℤ x)
        swap a b x = ring3 (λ a b x. (a :* (b :* x), b :* (a :* x))) a b x tt

        same : (S : InsideSum (shape m t) s.point (area (shape m u))) (U : InsideSum (shape m u) s.point (area (shape m t))) →
            SamePoint m (level (mix t S.a S.b S.c)) (level (mix u U.a U.b U.c))
        same S U φ c =
            let A = coordinate-affine c in
            (λ k. pos S.a *ℤ A.is t.p k +ℤ pos S.b *ℤ A.is t.q k +ℤ pos S.c *ℤ A.is t.r k)
            ∙ S.on A.form ∙ swap (area (shape m u)) (area (shape m t)) (val A.form s.point) ∙ sym (U.on A.form)
            ∙ sym (λ k. pos U.a *ℤ A.is u.p k +ℤ pos U.b *ℤ A.is u.q k +ℤ pos U.c *ℤ A.is u.r k)

    -- A LAWFUL, FAITHFUL MESH IS PROPER
    pub faithful-proper : Proper m
    faithful-proper = record {
      places-differ = places-differ;
      none_inside = λ k h. All-of m.tris (λ t i. All-of (arrows t) (λ e j. none_inside k h i j));
      none-shared = λ i j l h s.
          (let e = same_row m law i j (omega arith) h (shared-row (at_mem m.tris i (tri 0 0 0) (omega arith)) (at_mem m.tris j (tri 0 0 0) h) s) in
          omega arith);
    }
