-- The corners and edges of a row of a lawful mesh: the weight of a corner in a sum; an edge by its ends, and sums of these; and rows with
-- the same corners are one row. Assumes nothing.
use mathlib.Core.List.{Memᴰ}
use Rattle.std.specs.Prelude.{◌≢◌, ◌≡◌, refl, ℕ, ◌+◌, ◌*◌, ◌<◌, ℤ, pos, length, ◌<ℤ◌}
use Rattle.std.proofs.Common.{sym, subst, ◌∙◌, arith}
use Rattle.std.proofs.Math.Path.{subst⁻¹}
use Rattle.std.proofs.Math.Decide.{ℕ_discrete}
use Rattle.lists.specs.ListsLaw.{All-at, any_at}
use Rattle.whole.specs.Diff.{onℤ, negℤ-ud}
use Rattle.meaning.specs.declared.Tri.{Tri}
use Rattle.meaning.specs.Mesh.{Mesh, Arrow, arrows, same_arrow, at, turn, twice_area}
use Rattle.meaning.specs.Lawful.{Named, Lawful}
use Rattle.meaning.specs.Proper.{area, shape}
use Rattle.laws.specs.Area.{turn-cycle, turn-mirror}
use Rattle.laws.specs.Edges.{eq-arrow, here, here_self, here-no}
use Rattle.laws.specs.Faults.{holds-own}
use Rattle.laws.specs.Pairs.{arrows-once, holder-one}
use Rattle.laws.specs.RowMean.{CornerOf, is-p, is-q, is-r}
use Rattle.laws.specs.Weights.{turned}
use Rattle.proper.specs.OnLine.{len, len-above}
use Rattle.proper.specs.Sums.{Sum, Mix, mix, level, two, SameSum, rotated, rotated-same, without-third}

-- 1 at node j, 0 at any other
abbrev pub peak : ℕ → ℕ → ℤ
peak j k = pos (here j k)

-- the weight of node j
abbrev pub weight_of : Mix → ℕ → ℕ
weight_of s j = s.a * here j s.row.p + s.b * here j s.row.q + s.c * here j s.row.r

pub same-weight : (s u : Mix) → SameSum (level s) (level u) → (j : ℕ) → weight_of s j ≡ weight_of u j
same-weight s u e j = let f : pos (weight_of s j) ≡ pos (weight_of u j) = e (peak j) in omega (arith, onℤ)

-- ---- corners

-- a node with weight is a corner
pub corner-of-weight : (s : Mix) (k : ℕ) → 0 < weight_of s k → CornerOf s.row k
corner-of-weight s k h = go (ℕ_discrete s.row.p k) (ℕ_discrete s.row.q k) (ℕ_discrete s.row.r k)
  where
    none : (a b c u v w : ℕ) → 0 < a * u + b * v + c * w → u ≡ 0 → v ≡ 0 → w ≡ 0 → ⊥
    none a b c u v w h e f g = let n : a * u + b * v + c * w ≡ a * 0 + b * 0 + c * 0 = rw (e, f, g) in omega arith

    go : Dec (s.row.p ≡ k) → Dec (s.row.q ≡ k) → Dec (s.row.r ≡ k) → CornerOf s.row k
    go (yes e) y z = subst (CornerOf s.row) e is-p
    go (no e) (yes f) z = subst (CornerOf s.row) f is-q
    go (no e) (no f) (yes g) = subst (CornerOf s.row) g is-r
    go (no e) (no f) (no g) = absurd (none s.a s.b s.c _ _ _ h (here-no k s.row.p e) (here-no k s.row.q f) (here-no k s.row.r g))

-- the weights of the corners, which are three nodes
module _ {n : ℕ} (t : Tri) (named : Named n t) (a b c : ℕ) where
  pub weight-p : weight_of (mix t a b c) t.p ≡ a
  weight-p = rw (here_self t.p, here-no t.p t.q (λ e. named.p≢q (sym e)), here-no t.p t.r named.r≢p) (omega arith)

  pub weight-q : weight_of (mix t a b c) t.q ≡ b
  weight-q = rw (here_self t.q, here-no t.q t.p named.p≢q, here-no t.q t.r (λ e. named.q≢r (sym e))) (omega arith)

  pub weight-r : weight_of (mix t a b c) t.r ≡ c
  weight-r = rw (here_self t.r, here-no t.r t.p (λ e. named.r≢p (sym e)), here-no t.r t.q named.q≢r) (omega arith)

-- ---- edges

-- F is a sum of the corners of row t
abbrev pub SumOf : Tri → Sum → Type 0
SumOf t F = (a b c : ℕ) × SameSum (level (mix t a b c)) F

-- an edge of row t by its ends
pub record RowEdge (m : Mesh) (t : Tri) (x y : ℕ) : Type 0 where
  pub from-below : x < length m.nodes
  pub to_below : y < length m.nodes
  pub apart : x ≢ y
  pub long : pos 0 <ℤ len (at m x) (at m y)
  pub sum : (α β : ℕ) → SumOf t (two x y α β)

module _ (m : Mesh) (law : Lawful m) {t : Tri} (i : Memᴰ t m.tris) where
  pub above-pqr : pos 0 <ℤ area (shape m t)
  unfolding twice_area
  above-pqr = All-at law.positive i

  pub above-qrp : pos 0 <ℤ turn (at m t.q) (at m t.r) (at m t.p)
  above-qrp = rw (← (turn-cycle (at m t.p) (at m t.q) (at m t.r))) above-pqr

  pub above-rpq : pos 0 <ℤ turn (at m t.r) (at m t.p) (at m t.q)
  above-rpq = rw (turn-cycle (at m t.r) (at m t.p) (at m t.q)) above-pqr

  edge-pq : RowEdge m t t.p t.q
  edge-pq =
      let N = All-at law.named i in
      record {
        from-below = N.p-below;
        to_below = N.q-below;
        apart = N.p≢q;
        long = len-above (at m t.p) (at m t.q) (at m t.r) above-pqr;
        sum = λ α β. (α, β, 0, without-third t α β 0 refl);
      }

  edge-qr : RowEdge m t t.q t.r
  edge-qr =
      let N = All-at law.named i in
      record {
        from-below = N.q-below;
        to_below = N.r-below;
        apart = N.q≢r;
        long = len-above (at m t.q) (at m t.r) (at m t.p) above-qrp;
        sum = λ α β. (0, α, β, λ φ. rotated-same (mix t 0 α β) φ ∙ without-third (turned t) α β 0 refl φ);
      }

  edge-rp : RowEdge m t t.r t.p
  edge-rp =
      let N = All-at law.named i in
      record {
        from-below = N.r-below;
        to_below = N.p-below;
        apart = N.r≢p;
        long = len-above (at m t.r) (at m t.p) (at m t.q) above-rpq;
        sum = λ α β. (β, 0, α, λ φ. rotated-same (mix t β 0 α) φ ∙ rotated-same (rotated (mix t β 0 α)) φ ∙ without-third (turned (turned t)) α β 0 refl φ);
      }

  pub row-edge : {e : Arrow} → Memᴰ e (arrows t) → RowEdge m t e.from e.to
  row-edge (Memᴰ.head e) = subst⁻¹ (λ d. RowEdge m t d.from d.to) e edge-pq
  row-edge (Memᴰ.tail (Memᴰ.head e)) = subst⁻¹ (λ d. RowEdge m t d.from d.to) e edge-qr
  row-edge {e = e} (Memᴰ.tail (Memᴰ.tail (Memᴰ.tail i))) = elim i [ ]
  row-edge (Memᴰ.tail (Memᴰ.tail (Memᴰ.head e))) = subst⁻¹ (λ d. RowEdge m t d.from d.to) e edge-rp

-- ---- rows with the same corners

module _ (m : Mesh) (law : Lawful m) {t u : Tri} (i : Memᴰ t m.tris) (j : Memᴰ u m.tris) where
  -- both hold one arrow
  same-arrow : {d e : Arrow} → Memᴰ d (arrows t) → Memᴰ e (arrows u) → d.from ≡ e.from → d.to ≡ e.to → t ≡ u
  same-arrow {d} {e} k l p q = holder-one d (arrows-once m law) i (holds-own d k) j (any_at (same_arrow d) (eq-arrow d e.from e.to p q) l)

  -- the same corners the other way round make the opposite area
  opposed : {a b c : ℕ} → pos 0 <ℤ turn (at m a) (at m b) (at m c) → t.p ≡ a → t.q ≡ c → t.r ≡ b → ⊥
  opposed {a} {b} {c} h e f g =
      let k = above-pqr m law i in
      let moved : area (shape m t) ≡ turn (at m a) (at m c) (at m b) = λ d. turn (at m (e d)) (at m (f d)) (at m (g d)) in
      let n = turn-mirror (at m a) (at m b) (at m c) in
      omega (arith, onℤ, negℤ-ud (turn (at m a) (at m b) (at m c)))

  same-corners : CornerOf u t.p → CornerOf u t.q → CornerOf u t.r → t ≡ u
  same-corners x y z = go x y z refl refl refl
    where
      N : Named (length m.nodes) t
      N = All-at law.named i

      first : {k l o : ℕ} → k ≡ o → l ≡ o → k ≡ l
      first e f = e ∙ sym f

      go : {a b c : ℕ} → CornerOf u a → CornerOf u b → CornerOf u c → t.p ≡ a → t.q ≡ b → t.r ≡ c → t ≡ u
      go is-p is-p z e f g = absurd (N.p≢q (first e f))
      go is-q is-q z e f g = absurd (N.p≢q (first e f))
      go is-r is-r z e f g = absurd (N.p≢q (first e f))
      go is-p is-q z e f g = same-arrow (Memᴰ.head refl) (Memᴰ.head refl) e f
      go is-q is-r z e f g = same-arrow (Memᴰ.head refl) (Memᴰ.tail (Memᴰ.head refl)) e f
      go is-r is-p z e f g = same-arrow (Memᴰ.head refl) (Memᴰ.tail (Memᴰ.tail (Memᴰ.head refl))) e f
      go is-q is-p is-p e f g = absurd (N.q≢r (first f g))
      go is-q is-p is-q e f g = absurd (N.r≢p (first g e))
      go is-q is-p is-r e f g = absurd (opposed (above-qrp m law j) e f g)
      go is-r is-q is-q e f g = absurd (N.q≢r (first f g))
      go is-r is-q is-r e f g = absurd (N.r≢p (first g e))
      go is-r is-q is-p e f g = absurd (opposed (above-rpq m law j) e f g)
      go is-p is-r is-r e f g = absurd (N.q≢r (first f g))
      go is-p is-r is-p e f g = absurd (N.r≢p (first g e))
      go is-p is-r is-q e f g = absurd (opposed (above-pqr m law j) e f g)

-- a sum with weight at every corner tells the row
pub full-row : (m : Mesh) → Lawful m → (s u : Mix) → Memᴰ s.row m.tris → Memᴰ u.row m.tris →
    SameSum (level s) (level u) → 0 < s.a → 0 < s.b → 0 < s.c → s.row ≡ u.row
full-row m law s u i j e a b c =
    let N = All-at law.named i in
    same-corners m law i j
    (corner-of-weight u s.row.p (omega (arith, same-weight s u e s.row.p, weight-p s.row N s.a s.b s.c)))
    (corner-of-weight u s.row.q (omega (arith, same-weight s u e s.row.q, weight-q s.row N s.a s.b s.c)))
    (corner-of-weight u s.row.r (omega (arith, same-weight s u e s.row.r, weight-r s.row N s.a s.b s.c)))
