-- A place strictly inside an edge is strictly left of the other two sides of any triangle with that edge; and the corners of a row in turn, from any of them on.
-- Assumes nothing.
use Rattle.std.specs.Prelude.{Bool, true, false, ◌≢◌, ◌≡◌, refl, ℕ, ℤ, pos, neg_ℤ, ◌+ℤ◌, ◌-ℤ◌, ◌*ℤ◌, ◌≤ℤ◌, ◌<ℤ◌}
use mathlib.Core.List.{Memᴰ}
use Rattle.std.proofs.Common.{sym, subst, ap, ◌∙◌, arith}
use Rattle.std.proofs.Math.Path.{subst⁻¹}
use Rattle.std.proofs.Math.IntN.{*ℤ_comm}
use Rattle.std.specs.Int.Signed.{lt_z}
use Rattle.whole.specs.Diff.{onℤ, sumℤ, subℤ, mulℤ}
use Rattle.whole.specs.Order.{scale-le, positive-times}
use Rattle.whole.specs.Ring.{K, ◌:+◌, ◌:-◌, ◌:*◌, neg, combine₁, ring8}
use Rattle.whole.specs.Tests.{lt_z-true, lt_z-false}
use Rattle.meaning.specs.declared.Place.{Place}
use Rattle.meaning.specs.declared.Tri.{Tri}
use Rattle.meaning.specs.Mesh.{Mesh, Arrow, tri, arrows, at, turn}
use Rattle.meaning.specs.Asking.{HoldsPoint}
use Rattle.meaning.specs.Proper.{Point, Inside, StrictlyInside, facing, shape}
use Rattle.laws.specs.Area.{turn_expr}
use Rattle.laws.specs.RowMean.{CornerOf, is-p, is-q, is-r}
use Rattle.proper.specs.OnLine.{along, len, along_expr, facing_expr, len-nonneg}
use Rattle.border.specs.Places.{apart-of-turn, facing-from, facing-to}
use Rattle.border.specs.Signs.{minus-above}
use Rattle.border.specs.Nudge.{Upright, upright-round}

-- ---- a place strictly inside an edge

-- a factor of what is above 0, the other not being below it
factor : (x y : ℤ) → (x ≤ℤ pos 0 → pos 0 ≤ℤ y) → pos 0 <ℤ (x *ℤ y) → pos 0 <ℤ x
factor x y f i = test (lt_z (pos 0) x) refl
  where
    test : (b : Bool) → lt_z (pos 0) x ≡ b → pos 0 <ℤ x
    test true e = lt_z-true (pos 0) x e
    test false e =
        let l = lt_z-false (pos 0) x e in
        let n = scale-le y x (pos 0) (f l) l in
        absurd (omega (arith, onℤ, mulℤ (pos 0) y))

-- two numbers with a sum and a product above 0 are above 0
both-above : (a b d : ℤ) → a +ℤ b ≡ d → pos 0 <ℤ d → pos 0 <ℤ (a *ℤ b) → (pos 0 <ℤ a) × (pos 0 <ℤ b)
both-above a b d e h i =
    (factor a b (λ l. omega (arith, onℤ, sumℤ a b)) i, factor b a (λ l. omega (arith, onℤ, sumℤ a b)) (subst (λ k. pos 0 <ℤ k) (*ℤ_comm a b) i))

module _ (A B C P : Place) where
  -- with P on the line of A and B
  product : turn A B P ≡ pos 0 → (turn B C P *ℤ turn C A P) *ℤ len A B ≡ (turn A B C *ℤ turn A B C) *ℤ neg_ℤ (facing A B P)
  product e = combine₁ (turn A B C *ℤ (along A C P -ℤ along A C B) +ℤ turn C A P *ℤ (along A C B -ℤ len A B)) e
      (ring8 (λ a b c d e f x y. (
        (turn_expr c d e f x y :* turn_expr e f a b x y) :* along_expr a b c d c d :- (turn_expr a b c d e f :* turn_expr a b c d e f) :* neg (facing_expr a b c d x y),
        (turn_expr a b c d e f :* (along_expr a b e f x y :- along_expr a b e f c d) :+ turn_expr e f a b x y :* (along_expr a b e f c d :- along_expr a b c d c d)) :* (turn_expr a b c d x y :- K (pos 0)),
      ))
      A.x A.y B.x B.y C.x C.y P.x P.y tt)

  three-turns : turn B C P +ℤ turn C A P ≡ turn A B C -ℤ turn A B P
  three-turns = ring8 (λ a b c d e f x y. (turn_expr c d e f x y :+ turn_expr e f a b x y, turn_expr a b c d e f :- turn_expr a b c d x y)) A.x A.y B.x B.y C.x C.y P.x P.y tt

  pub beside : pos 0 <ℤ turn A B C → StrictlyInside A B P → (pos 0 <ℤ turn B C P) × (pos 0 <ℤ turn C A P)
  beside h s =
      both-above (turn B C P) (turn C A P) (turn A B C) (three-turns ∙ ap (λ k. turn A B C -ℤ k) s.on_line ∙ whole (turn A B C)) h
      (factor (turn B C P *ℤ turn C A P) (len A B) (λ l. len-nonneg A B)
      (subst (λ k. pos 0 <ℤ k) (sym (product s.on_line))
      (positive-times (turn A B C *ℤ turn A B C) (neg_ℤ (facing A B P)) (positive-times (turn A B C) (turn A B C) h h) (minus-above (facing A B P) s.between))))
    where
      whole : (k : ℤ) → k -ℤ pos 0 ≡ k
      whole k = omega (arith, onℤ, subℤ k (pos 0))

-- ---- the corners of a row in turn

-- x, y, z are the corners of row t in turn
pub data Turned (t : Tri) : ℕ → ℕ → ℕ → Type 0 where
  from-p : Turned t t.p t.q t.r
  from-q : Turned t t.q t.r t.p
  from-r : Turned t t.r t.p t.q

-- by one of its arrows
pub turned-arrow : {t : Tri} {e : Arrow} → Memᴰ e (arrows t) → (z : ℕ) × Turned t e.from e.to z
turned-arrow {t} (Memᴰ.head e) = (t.r, subst⁻¹ (λ (d : Arrow). Turned t d.from d.to t.r) e from-p)
turned-arrow {t} (Memᴰ.tail (Memᴰ.head e)) = (t.p, subst⁻¹ (λ (d : Arrow). Turned t d.from d.to t.p) e from-q)
turned-arrow {t = t} {e = e} (Memᴰ.tail (Memᴰ.tail (Memᴰ.tail i))) = elim i [ ]
turned-arrow {t} (Memᴰ.tail (Memᴰ.tail (Memᴰ.head e))) = (t.q, subst⁻¹ (λ (d : Arrow). Turned t d.from d.to t.q) e from-r)

-- the places of x, y, z
pub turned-upright : (m : Mesh) {t : Tri} {x y z : ℕ} → Turned t x y z → Upright (shape m t) → Upright (shape m (tri x y z))
turned-upright m from-p u = u
turned-upright m from-q u = upright-round u
turned-upright m from-r u = upright-round (upright-round u)

pub turned-inside : (m : Mesh) (s : Point) {t : Tri} {x y z : ℕ} → Turned t x y z → Inside (shape m (tri x y z)) s → Inside (shape m t) s
turned-inside m s from-p h = h
turned-inside m s from-q h = record { pq = h.rp; qr = h.pq; rp = h.qr }
turned-inside m s from-r h = record { pq = h.qr; qr = h.rp; rp = h.pq }

pub turned-holds : (m : Mesh) (P : Place) {t : Tri} {x y z : ℕ} → Turned t x y z → HoldsPoint m P (tri x y z) → HoldsPoint m P t
turned-holds m P from-p h = h
turned-holds m P from-q h = record { off-qr = h.off-pq; off-rp = h.off-qr; off-pq = h.off-rp }
turned-holds m P from-r h = record { off-qr = h.off-rp; off-rp = h.off-pq; off-pq = h.off-qr }

corner-round : {t : Tri} {k : ℕ} → CornerOf t k → CornerOf (tri t.q t.r t.p) k
corner-round is-p = is-r
corner-round is-q = is-p
corner-round is-r = is-q

pub turned-corner : {t : Tri} {x y z : ℕ} → Turned t x y z → (k : ℕ) → CornerOf t k → CornerOf (tri x y z) k
turned-corner from-p k c = c
turned-corner from-q k c = corner-round c
turned-corner from-r k c = corner-round (corner-round c)

-- ---- a node strictly inside an edge of a row

module _ (m : Mesh) {x y z : ℕ} (u : Upright (shape m (tri x y z))) where
  -- it is none of the row's corners
  pub inside-no-corner : {k : ℕ} → StrictlyInside (at m x) (at m y) (at m k) → CornerOf (tri x y z) k → ⊥
  inside-no-corner s is-p = let f = facing-from (at m x) (at m y) in omega (arith, onℤ, s.between)
  inside-no-corner s is-q = let f = facing-to (at m x) (at m y) in omega (arith, onℤ, s.between)
  inside-no-corner s is-r = omega (arith, onℤ, s.on_line, u.pqr)

  pub inside-held : (P : Place) → StrictlyInside (at m x) (at m y) P → HoldsPoint m P (tri x y z)
  inside-held P s =
      let (a, b) = beside (at m x) (at m y) (at m z) P u.pqr s in
      record { off-qr = omega (arith, onℤ); off-rp = omega (arith, onℤ); off-pq = omega (arith, onℤ, s.on_line) }

-- two corners of a row at one place are one node
pub one-corner : (m : Mesh) {t : Tri} → Upright (shape m t) → {j k : ℕ} → CornerOf t j → CornerOf t k → at m j ≡ at m k → j ≡ k
one-corner m {t} u a b e = go a b e
  where
    pq : at m t.p ≢ at m t.q
    pq = apart-of-turn (at m t.p) (at m t.q) (at m t.r) u.pqr

    qr : at m t.q ≢ at m t.r
    qr = apart-of-turn (at m t.q) (at m t.r) (at m t.p) u.qrp

    rp : at m t.r ≢ at m t.p
    rp = apart-of-turn (at m t.r) (at m t.p) (at m t.q) u.rpq

    go : {j k : ℕ} → CornerOf t j → CornerOf t k → at m j ≡ at m k → j ≡ k
    go is-p is-p e = refl
    go is-p is-q e = absurd (pq e)
    go is-p is-r e = absurd (rp (sym e))
    go is-q is-p e = absurd (pq (sym e))
    go is-q is-q e = refl
    go is-q is-r e = absurd (qr e)
    go is-r is-p e = absurd (rp e)
    go is-r is-q e = absurd (qr (sym e))
    go is-r is-r e = refl
