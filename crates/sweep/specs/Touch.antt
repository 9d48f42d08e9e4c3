-- W7: a corner of one row on a side of another, by the test and as facts. P gives the place of each node. Assumes nothing.
use Rattle.std.specs.Prelude.{true, ◌≢◌, ◌≡◌, refl, ℕ, pos, ◌<ℤ◌}
use mathlib.Core.List.{Memᴰ}
use Rattle.std.proofs.Common.{sym, ap, ◌∙◌, arith}
use Rattle.lists.specs.Lists.{any, All, nil, cons}
use Rattle.lists.specs.ListsLaw.{All-at, any_at, any-row}
use Rattle.whole.specs.Diff.{onℤ}
use Rattle.meaning.specs.declared.Place.{Place}
use Rattle.meaning.specs.declared.Tri.{Tri}
use Rattle.meaning.specs.Mesh.{Arrow, arrow, arrows, turn}
use Rattle.meaning.specs.Proper.{area}
use Rattle.laws.specs.Area.{turn-cycle}
use Rattle.laws.specs.RowMean.{CornerOf, is-p, is-q, is-r}
use Rattle.proper.specs.OnLine.{len, len-above}
use Rattle.pairs.specs.Pair.{shape_by, corners, on_side, touches}
use Rattle.pairs.specs.OnSide.{On, on-is, is-on}

module _ (P : ℕ → Place) where
  -- a corner of u is on a side of t
  pub record Touching (t u : Tri) : Type 0 where
    pub side : Arrow
    pub side-of : Memᴰ side (arrows t)
    pub corner : ℕ
    pub corner-of : Memᴰ corner (corners u)
    pub on : On P side.from side.to corner

  pub touches-is : (t u : Tri) → touches P t u ≡ true → Touching t u
  unfolding touches
  touches-is t u h =
      let r = any-row (λ e. any (on_side P e) (corners u)) (arrows t) h in
      let s = any-row (on_side P r.0) (corners u) r.2 in
      record { side = r.0; side-of = r.1; corner = s.0; corner-of = s.1; on = on-is P r.0.from r.0.to s.0 s.2 }

  pub is-touches : (t u : Tri) → Touching t u → touches P t u ≡ true
  unfolding touches
  is-touches t u h = any_at (λ e. any (on_side P e) (corners u)) (any_at (on_side P h.side) (is-on P h.side.from h.side.to h.corner h.on) h.corner-of) h.side-of

  -- ---- a side of a row, and the corner across

  pub record Across (t : Tri) (e : Arrow) : Type 0 where
    pub apex : ℕ
    pub area-is : turn (P e.from) (P e.to) (P apex) ≡ area (shape_by P t)
    pub only : All (λ k. k ≢ e.from → k ≢ e.to → k ≡ apex) (corners t)

  pub across : (t : Tri) → All (Across t) (arrows t)
  across t = cons (record {
    apex = t.r;
    area-is = refl;
    only = cons (λ n m. absurd (n refl)) (cons (λ n m. absurd (m refl)) (cons (λ n m. refl) nil));
  }) (cons (record {
    apex = t.p;
    area-is = sym (turn-cycle (P t.p) (P t.q) (P t.r));
    only = cons (λ n m. refl) (cons (λ n m. absurd (n refl)) (cons (λ n m. absurd (m refl)) nil));
  }) (cons (record {
    apex = t.q;
    area-is = turn-cycle (P t.r) (P t.p) (P t.q);
    only = cons (λ n m. absurd (m refl)) (cons (λ n m. refl) (cons (λ n m. absurd (n refl)) nil));
  }) nil))

  -- the ends of a side of a row with an area are apart
  pub side-long : (t : Tri) → pos 0 <ℤ area (shape_by P t) → {e : Arrow} → Memᴰ e (arrows t) → pos 0 <ℤ len (P e.from) (P e.to)
  side-long t h {e} i = let a = All-at (across t) i in len-above (P e.from) (P e.to) (P a.apex) (rw a.area-is h)

  -- a corner of a row with an area is on no side of its own
  pub own-corner : (t : Tri) → pos 0 <ℤ area (shape_by P t) → {e : Arrow} → Memᴰ e (arrows t) → {k : ℕ} → Memᴰ k (corners t) → On P e.from e.to k → ⊥
  own-corner t h {e} i {k} j o =
      let a = All-at (across t) i in
      let q : k ≡ a.apex = All-at a.only j o.not-from o.not-to in
      let z : pos 0 ≡ area (shape_by P t) = sym o.on_line ∙ ap (λ n. turn (P e.from) (P e.to) (P n)) q ∙ a.area-is in
      omega (arith, onℤ)

-- a corner of a row, and a side that begins there
pub corner-in : {t : Tri} {k : ℕ} → CornerOf t k → Memᴰ k (corners t)
corner-in is-p = Memᴰ.head refl
corner-in is-q = Memᴰ.tail (Memᴰ.head refl)
corner-in is-r = Memᴰ.tail (Memᴰ.tail (Memᴰ.head refl))

pub corner-side : (t : Tri) → All (λ k. (e : Arrow) × Memᴰ e (arrows t) × (e.from ≡ k)) (corners t)
corner-side t = cons (arrow t.p t.q, Memᴰ.head refl, refl)
    (cons (arrow t.q t.r, Memᴰ.tail (Memᴰ.head refl), refl)
    (cons (arrow t.r t.p, Memᴰ.tail (Memᴰ.tail (Memᴰ.head refl)), refl) nil))
