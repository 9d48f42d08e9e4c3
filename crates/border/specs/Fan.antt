-- The rows round a node that no border arrow leaves: every point close to the node is inside one of them. Their number is the same for all close points, since
-- the arrows through the node come to 0, and the arrows opposite it run under a close point where they pass the node. Assumes nothing.
use Rattle.std.specs.Prelude.{Bool, not, ◌&&◌, ◌≡◌, ℕ, ◌≤◌, ◌<◌, eqb, ℤ, neg_ℤ, ◌+ℤ◌, length, ◌<ℤ◌}
use Rattle.std.proofs.Math.Bool.{true, false, ◌||◌}
use mathlib.Core.List.{Memᴰ}
use Rattle.std.proofs.Math.Path.{refl, sym, ap, ap₂}
use Rattle.std.proofs.Common.{subst, ◌∙◌, arith, eqb-true}
use Rattle.std.proofs.Math.IntN.{pos}
use Rattle.std.specs.Int.Signed.{lt_z}
use Rattle.whole.specs.Diff.{onℤ, sumℤ}
use Rattle.lists.specs.Lists.{count, All, nil, cons}
use Rattle.lists.specs.ListsLaw.{clash, and_both, and_left, and_right, or_no, All-imp, All-both, All-at, All-of, any_at, count_none}
use Rattle.lists.specs.MembersLaw.{count-some, any-count}
use Rattle.meaning.specs.declared.Place.{Place}
use Rattle.meaning.specs.declared.Tri.{Tri}
use Rattle.meaning.specs.Mesh.{Mesh, Arrow, arrow, arrows, holds_node, at, turn, twice_area}
use Rattle.meaning.specs.Lawful.{InRange, Lawful}
use Rattle.meaning.specs.Asking.{HoldsPoint}
use Rattle.meaning.specs.Proper.{Shape, Point, Inside, area, shape}
use Rattle.laws.specs.Area.{turn-cycle}
use Rattle.laws.specs.RowMean.{corner-of, corner-holds}
use Rattle.border.specs.Keys.{place-range, steep-apart}
use Rattle.border.specs.Places.{apart-of-turn}
use Rattle.border.specs.Sums.{when, one, when-neg, added, added-eq, added-sum, added-zero, added-count, added-joined}
use Rattle.border.specs.Under.{Off, key, under, inside, inside-yes, yes-inside, under-swapped, one-triangle}
use Rattle.border.specs.Cancel.{border, border-sum, leave-arrive}
use Rattle.border.specs.Count.{OffRows, under_arrow, drop-zero}
use Rattle.border.specs.Clear.{steep}
use Rattle.border.specs.Nudge.{Upright, row-upright, nudged-rows}
use Rattle.border.specs.Close.{toward, close, toward-weight, close-under, close-inside}

-- no border arrow leaves node k
abbrev pub Inner : Mesh → ℕ → Type 0
Inner m k = count (λ e. eqb e.from k) (border m.tris) ≡ 0

-- ---- arrows through a node and arrows opposite it

-- k is an end of a→b
abbrev ends : ℕ → ℕ → ℕ → Bool
ends k a b = eqb a k || eqb b k

ends-swapped : (a b : Bool) → b || a ≡ a || b
ends-swapped true true = refl
ends-swapped true false = refl
ends-swapped false true = refl
ends-swapped false false = refl

-- 1 if the arrow passes k, rising
abbrev rising : Mesh → ℕ → Arrow → ℤ
rising m k e = one (lt_z (key steep (at m e.from)) (key steep (at m k)) && lt_z (key steep (at m k)) (key steep (at m e.to)))

-- of an arrow that is not through k
abbrev opposite : Mesh → ℕ → Arrow → ℤ
opposite m k e = when (not (ends k e.from e.to)) (rising m k e)

-- an arrow that is not through k runs under the point where it passes k
abbrev AsAt : Mesh → ℕ → Point → Arrow → Type 0
AsAt m k s e = ends k e.from e.to ≡ false → under_arrow steep m s e ≡ rising m k e

-- the point is close to k, as far as the arrows opposite it tell
abbrev CloseTo : Mesh → ℕ → Point → Type 0
CloseTo m k s = All (λ t. holds_node k t ≡ true → All (AsAt m k s) (arrows t)) m.tris

-- the rows at k that the point is inside
abbrev fan : Mesh → ℕ → Point → ℕ
fan m k s = count (λ t. holds_node k t && inside (shape m t) s) m.tris

module _ (m : Mesh) (k : ℕ) (s : Point) where
  through : ℕ → ℕ → ℤ
  through a b = when (ends k a b) (under steep (at m a) (at m b) s)

  through-swapped : (a b : ℕ) → through b a ≡ neg_ℤ (through a b)
  unfolding through
  through-swapped a b =
      ap₂ when (ends-swapped (eqb a k) (eqb b k)) (under-swapped steep (at m a) (at m b) s) ∙ when-neg (ends k a b) (under steep (at m a) (at m b) s)

  abbrev through_arrow : Arrow → ℤ
  through_arrow e = through e.from e.to

  arrow-parts : (e : Arrow) → AsAt m k s e → under_arrow steep m s e ≡ through_arrow e +ℤ opposite m k e
  unfolding through
  arrow-parts e h = go (ends k e.from e.to) h
    where
      go : (b : Bool) → (b ≡ false → under_arrow steep m s e ≡ rising m k e) → under_arrow steep m s e ≡ when b (under_arrow steep m s e) +ℤ when (not b) (rising m k e)
      go true h = let u = under_arrow steep m s e in omega (arith, onℤ, sumℤ u (pos 0))
      go false h = let v = rising m k e in h refl ∙ omega (arith, onℤ, sumℤ (pos 0) v)

  not_through : (a b : ℕ) → eqb a k ≡ false → eqb b k ≡ false → through a b ≡ pos 0
  unfolding through
  not_through a b e f = ap (λ c. when c (under steep (at m a) (at m b) s)) (ap₂ ◌||◌ e f)

  -- one row: what its arrows through k come to, and the arrow opposite
  row-parts : (t : Tri) → pos 0 <ℤ area (shape m t) → Off steep (shape m t) s → (holds_node k t ≡ true → All (AsAt m k s) (arrows t)) →
      one (holds_node k t && inside (shape m t) s) ≡ added through_arrow (arrows t) +ℤ when (holds_node k t) (added (opposite m k) (arrows t))
  row-parts t h o near = go (holds_node k t) refl
    where
      total : added through_arrow (arrows t) +ℤ added (opposite m k) (arrows t) ≡ added (λ e. through_arrow e +ℤ opposite m k e) (arrows t)
      total = sym (added-sum through_arrow (opposite m k) (arrows t))

      go : (b : Bool) → holds_node k t ≡ b → one (b && inside (shape m t) s) ≡ added through_arrow (arrows t) +ℤ when b (added (opposite m k) (arrows t))
      go true e =
          sym (one-triangle steep (shape m t) s h o) ∙
          sym (drop-zero (under steep (at m t.p) (at m t.q) s) (under steep (at m t.q) (at m t.r) s) (under steep (at m t.r) (at m t.p) s)) ∙
          added-eq (under_arrow steep m s) (λ e. through_arrow e +ℤ opposite m k e) (All-imp arrow-parts (near e)) ∙
          sym total
      go false e =
          let (pq, r) = or_no (eqb t.p k || eqb t.q k) (eqb t.r k) e in
          let (p, q) = or_no (eqb t.p k) (eqb t.q k) pq in
          rw (not_through t.p t.q p q, not_through t.q t.r q r, not_through t.r t.p r p) refl

-- ---- all rows at a node

-- how many of the rows at k have k's key within the side opposite it, rising
abbrev around : Mesh → ℕ → ℤ
around m k = added (λ t. when (holds_node k t) (added (opposite m k) (arrows t))) m.tris

module _ (m : Mesh) (law : Lawful m) (k : ℕ) (inner : Inner m k) where
  -- the arrows through k come to 0: none of them is on the border
  through-none : (s : Point) → added (λ t. added (through_arrow m k s) (arrows t)) m.tris ≡ pos 0
  through-none s =
      sym (added-joined (through_arrow m k s) arrows m.tris) ∙ border-sum (through m k s) (through-swapped m k s) m.tris law.no_twice ∙
      added-zero (through_arrow m k s) (All-imp (λ e h. not_through m k s e.from e.to h.0 h.1) (All-both leaves arrives))
    where
      leaves : All (λ e. eqb e.from k ≡ false) (border m.tris)
      leaves = count_none (λ (e : Arrow). eqb e.from k) inner

      arrives : All (λ e. eqb e.to k ≡ false) (border m.tris)
      arrives = count_none (λ (e : Arrow). eqb e.to k) (sym (leave-arrive k m.tris law.no_twice) ∙ inner)

  -- so many of them a close point is inside, whatever point it is
  fan-number : (s : Point) → OffRows steep m s → CloseTo m k s → pos (fan m k s) ≡ around m k
  unfolding twice_area
  fan-number s off near =
      sym (added-count (λ t. holds_node k t && inside (shape m t) s) m.tris) ∙
      added-eq (λ t. one (holds_node k t && inside (shape m t) s)) (λ t. added (through_arrow m k s) (arrows t) +ℤ when (holds_node k t) (added (opposite m k) (arrows t)))
      (All-imp (λ t h. row-parts m k s t h.0 h.1.0 h.1.1) (All-both law.positive (All-both off near))) ∙
      added-sum (λ t. added (through_arrow m k s) (arrows t)) (λ t. when (holds_node k t) (added (opposite m k) (arrows t))) m.tris ∙
      ap (λ z. z +ℤ around m k) (through-none s) ∙ plain-sum (around m k)
    where
      plain-sum : (a : ℤ) → pos 0 +ℤ a ≡ a
      plain-sum a = omega (arith, onℤ, sumℤ (pos 0) a)

-- ---- close points are near

-- of three corners, one is k, and two are not
last-left : (a b c : Bool) → a || b || c ≡ true → a || b ≡ false → c ≡ true
last-left true b c h e = clash e
last-left false true c h e = clash e
last-left false false c h e = h

first-left : (a b c : Bool) → a || b || c ≡ true → b || c ≡ false → a ≡ true
first-left true b c h e = refl
first-left false true c h e = clash e
first-left false false c h e = clash (sym h ∙ e)

middle-left : (a b c : Bool) → a || b || c ≡ true → c || a ≡ false → b ≡ true
middle-left a true c h e = refl
middle-left true false true h e = clash e
middle-left true false false h e = clash e
middle-left false false true h e = clash e
middle-left false false false h e = h

module _ (m : Mesh) (law : Lawful m) (k : ℕ) {t : Shape} (u : Upright t) where
  -- the arrow x→y of a row whose third corner is k
  side-near : (x y z : ℕ) → InRange (at m x) → InRange (at m y) → pos 0 <ℤ turn (at m x) (at m y) (at m z) → z ≡ k →
      under_arrow steep m (close (at m k) t) (arrow x y) ≡ rising m k (arrow x y)
  side-near x y z a b h e =
      let here : pos 0 <ℤ turn (at m x) (at m y) (at m k) = subst (λ w. pos 0 <ℤ turn (at m x) (at m y) (at m w)) e h in
      let in-k = place-range m law k in
      close-under (at m k) u a b
      (λ w. apart-of-turn (at m k) (at m x) (at m y) (subst (λ w. pos 0 <ℤ w) (sym (turn-cycle (at m k) (at m x) (at m y))) here) (sym (steep-apart a in-k w)))
      (λ w. apart-of-turn (at m y) (at m k) (at m x) (subst (λ w. pos 0 <ℤ w) (turn-cycle (at m x) (at m y) (at m k)) here) (steep-apart b in-k w))
      here

  close-near : CloseTo m k (close (at m k) t)
  close-near = All-of m.tris (λ v i holds.
      let r = row-upright m law i in
      cons (λ e. side-near v.p v.q v.r r.p-in r.q-in r.pqr (eqb-true v.r k (last-left (eqb v.p k) (eqb v.q k) (eqb v.r k) holds e)))
      (cons (λ e. side-near v.q v.r v.p r.q-in r.r-in r.qrp (eqb-true v.p k (first-left (eqb v.p k) (eqb v.q k) (eqb v.r k) holds e)))
      (cons (λ e. side-near v.r v.p v.q r.r-in r.p-in r.rpq (eqb-true v.q k (middle-left (eqb v.p k) (eqb v.q k) (eqb v.r k) holds e)))
      nil)))

-- ---- a row that holds a place

pub row_inside : (m : Mesh) → Lawful m → (P : Place) {v : Tri} → Memᴰ v m.tris → HoldsPoint m P v → Inside (shape m v) (close P (shape m v))
row_inside m law P i h = close-inside P (row-upright m law i) h.off-pq h.off-qr h.off-rp

-- a row at the node
pub row_at : (m : Mesh) → Lawful m → (k : ℕ) → k < length m.nodes → (v : Tri) × Memᴰ v m.tris × (holds_node k v ≡ true)
row_at m law k h = count-some (holds_node k) m.tris (law.used k h)

pub row-holds-node : (m : Mesh) → Lawful m → (k : ℕ) {v : Tri} → Memᴰ v m.tris → holds_node k v ≡ true → HoldsPoint m (at m k) v
row-holds-node m law k {v} i h = corner-holds m v (All-at law.positive i) (corner-of v k h)

-- A POINT CLOSE TO A NODE THAT NO BORDER ARROW LEAVES IS INSIDE A ROW AT THE NODE.
pub fan-covers : (m : Mesh) → Lawful m → (k : ℕ) → k < length m.nodes → Inner m k → {t : Shape} → Upright t →
    (v : Tri) × Memᴰ v m.tris × (holds_node k v ≡ true) × Inside (shape m v) (close (at m k) t)
fan-covers m law k h inner {t} u =
    let (v, i, e) = row_at m law k h in
    let r = row-upright m law i in
    let P = at m k in
    let s = close P (shape m v) in
    let own = fan-number m law k inner s (nudged-rows m law (toward P (shape m v)) (toward-weight P (shape m v))) (close-near m law k r) in
    let same = fan-number m law k inner (close P t) (nudged-rows m law (toward P t) (toward-weight P t)) (close-near m law k u) in
    let test = and_both e (yes-inside (shape m v) s (row_inside m law P i (row-holds-node m law k i e))) in
    let some = any-count (λ w. holds_node k w && inside (shape m w) s) m.tris (any_at (λ w. holds_node k w && inside (shape m w) s) test i) in
    let (w, j, f) = count-some (λ w. holds_node k w && inside (shape m w) (close P t)) m.tris (equal-some (fan m k s) (fan m k (close P t)) (own ∙ sym same) some) in
    (w, j, and_left (holds_node k w) (inside (shape m w) (close P t)) f, inside-yes (shape m w) (close P t) (and_right (holds_node k w) (inside (shape m w) (close P t)) f))
  where
    equal-some : (a b : ℕ) → pos a ≡ pos b → 1 ≤ a → 1 ≤ b
    equal-some a b e h = omega (arith, onℤ)
