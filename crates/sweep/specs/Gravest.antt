-- W7: of a lawful mesh, the gravest of any two rows is the severity. A crowded node is a corner of one row on a side of another, and such a corner
-- is crowded, or its twin. Assumes nothing.
use Rattle.std.specs.Prelude.{Bool, ◌||◌, ◌⊎◌, ◌≢◌, ◌≡◌, ℕ, ◌≤◌, ◌<◌, pos, length, ◌≤ℤ◌, ◌<ℤ◌}
use Rattle.std.proofs.Math.Bool.{true, false}
use mathlib.Core.List.{Memᴰ}
use Rattle.std.proofs.Common.{inl, inr, sym, ap, subst, ◌∙◌}
use Rattle.std.proofs.Math.Path.{refl}
use native.Mathlib.Omega.{arith}
use Rattle.std.proofs.Math.Decide.{dec_lt}
use Rattle.lists.specs.Lists.{cases, nil, cons}
use Rattle.lists.specs.ListsLaw.{clash, or_left, or_right, All-at}
use Rattle.lists.specs.MembersLaw.{mem-at, at_mem}
use Rattle.whole.specs.Diff.{onℤ}
use Rattle.whole.specs.Order.{le_of_eq, le_antisymm, lt-or-le}
use Rattle.whole.specs.Ring.{K, ring4}
use Rattle.meaning.specs.declared.Place.{Place}
use Rattle.meaning.specs.declared.Tri.{Tri}
use Rattle.meaning.specs.Mesh.{Mesh, Arrow, tri, arrows, at, turn}
use Rattle.meaning.specs.Lawful.{Lawful, row_of}
use Rattle.meaning.specs.Proper.{shape, facing, Share, Crowded, at-one-place, inside-edge, Overlaps, with-lower, apart, uncrowded, disjoint}
use Rattle.laws.specs.Area.{turn-from}
use Rattle.proper.proofs.Check.{SomeCrowded}
use Rattle.proper.specs.Corners.{RowEdge, row-edge, above-pqr}
use Rattle.proper.specs.FaithfulProper.{node_row}
use Rattle.proper.specs.OnLine.{len, facing_expr, len-same}
use Rattle.proper.specs.Segment.{at-end}
use Rattle.proper.proofs.ProperLaw.{uncrowded-exact, disjoint-exact}
use Rattle.proper.specs.Sharing.{share_back}
use Rattle.proper.specs.Tested.{share-exact}
use Rattle.pairs.specs.Pair.{shape_by, corners, touches, grave}
use Rattle.pairs.specs.OnSide.{On}
use Rattle.sweep.specs.Touch.{Touching, touches-is, is-touches, own-corner, corner-in, corner-side}
use Rattle.sweep.specs.Severity.{severity, grave_of, SomeTwo, none, two, Gravest}

-- ---- two rows

pub data GraveIs (P : ℕ → Place) (t u : Tri) : ℕ → Type 0 where
  touch : (touches P t u ≡ true) ⊎ (touches P u t ≡ true) → GraveIs P t u 2
  overlap : apart (shape_by P t) (shape_by P u) ≡ false → GraveIs P t u 1
  clear : GraveIs P t u 0

pub grave-is : (P : ℕ → Place) (t u : Tri) → GraveIs P t u (grave P t u)
unfolding grave
grave-is P t u = go (touches P t u) refl (touches P u t) refl (apart (shape_by P t) (shape_by P u)) refl
  where
    go : (a : Bool) → touches P t u ≡ a → (b : Bool) → touches P u t ≡ b → (c : Bool) → apart (shape_by P t) (shape_by P u) ≡ c → GraveIs P t u (cases (a || b) 2 (cases c 0 1))
    go true e b f c g = touch (inl e)
    go false e true f c g = touch (inr f)
    go false e false f true g = clear
    go false e false f false g = overlap g

module _ (P : ℕ → Place) (t u : Tri) where
  grave-most : grave P t u ≤ 2
  grave-most = go (grave-is P t u)
    where
      go : {k : ℕ} → GraveIs P t u k → k ≤ 2
      go (touch h) = omega arith
      go (overlap h) = omega arith
      go clear = omega arith

  grave-touch : touches P t u || touches P u t ≡ true → grave P t u ≡ 2
  unfolding grave
  grave-touch e = rw e refl

  grave-overlap : apart (shape_by P t) (shape_by P u) ≡ false → 1 ≤ grave P t u
  unfolding grave
  grave-overlap e = rw e (go (touches P t u || touches P u t))
    where
      go : (b : Bool) → 1 ≤ cases b 2 1
      go true = omega arith
      go false = omega arith

-- ---- an end is on its own line

module _ (A B : Place) where
  facing-from : facing A B A ≡ pos 0
  facing-from = ring4 (λ a b c d. (facing_expr a b c d a b, K (pos 0))) A.x A.y B.x B.y tt

  facing-to : facing A B B ≡ pos 0
  facing-to = ring4 (λ a b c d. (facing_expr a b c d c d, K (pos 0))) A.x A.y B.x B.y tt

-- ---- a mesh

module _ (m : Mesh) (law : Lawful m) where
  -- a row that has node k
  row-with : (k : ℕ) → k < length m.nodes → (t : Tri) × Memᴰ t m.tris × Memᴰ k (corners t)
  row-with k h = let r = node_row m law k h in (r.0, r.1, corner-in r.2)

  -- a node is on a side of a row
  abbrev Sided : ℕ → Type 0
  Sided k = (t : Tri) × Memᴰ t m.tris × ((e : Arrow) × Memᴰ e (arrows t) × On (at m) e.from e.to k)

  sided : (k : ℕ) → k < length m.nodes → Crowded m k → Sided k
  sided k h (at-one-place j l q) =
      let r = row-with j (omega arith) in
      let s = All-at (corner-side r.0) r.2 in
      (r.0, r.1, (s.0, s.1, twin s.0 s.2 (row-edge m law r.1 s.1).long))
    where
      twin : (e : Arrow) → e.from ≡ j → pos 0 <ℤ len (at m e.from) (at m e.to) → On (at m) e.from e.to k
      twin e f d =
          let p : at m k ≡ at m e.from = sym q ∙ ap (at m) (sym f) in
          record {
            not-from = λ n. omega arith;
            not-to = λ n. len-same (at m e.from) (at m e.to) (sym p ∙ ap (at m) n) d;
            on_line = ap (λ X. turn (at m e.from) (at m e.to) X) p ∙ turn-from (at m e.from) (at m e.to);
            within = le_of_eq (ap (λ X. facing (at m e.from) (at m e.to) X) p ∙ facing-from (at m e.from) (at m e.to));
          }
  sided k h (inside-edge t i e j s) = (t, i, (e, j, record { not-from = from; not-to = to; on_line = s.on_line; within = omega (arith, onℤ, s.between) }))
    where
      from : k ≢ e.from
      from n =
          let z = ap (λ x. facing (at m e.from) (at m e.to) (at m x)) n ∙ facing-from (at m e.from) (at m e.to) in
          omega (arith, onℤ, s.between)

      to : k ≢ e.to
      to n =
          let z = ap (λ x. facing (at m e.from) (at m e.to) (at m x)) n ∙ facing-to (at m e.from) (at m e.to) in
          omega (arith, onℤ, s.between)

  -- A CROWDED NODE IS A CORNER OF ONE ROW ON A SIDE OF ANOTHER
  crowded-touches : (k : ℕ) → k < length m.nodes → Crowded m k →
      (i : ℕ) × (j : ℕ) × (i < length m.tris) × (j < length m.tris) × (i ≢ j) × (touches (at m) (row_of m.tris i) (row_of m.tris j) ≡ true)
  crowded-touches k h c =
      let s = sided k h c in
      let r = row-with k h in
      let a = mem-at (tri 0 0 0) s.1 in
      let b = mem-at (tri 0 0 0) r.1 in
      let e = s.2 in
      let touch = is-touches (at m) s.0 r.0 (record { side = e.0; side-of = e.1; corner = k; corner-of = r.2; on = e.2 }) in
      let other : s.0 ≢ r.0 = λ q. own-corner (at m) s.0 (above-pqr m law s.1) e.1 (subst (λ u. Memᴰ k (corners u)) (sym q) r.2) e.2 in
      (a.0, b.0, a.1, b.1, λ q. other (sym a.2 ∙ ap (row_of m.tris) q ∙ b.2), rw (a.2, b.2) touch)

  -- the places of two nodes are one, so the higher is crowded
  twins-crowded : (j k : ℕ) → j < length m.nodes → k < length m.nodes → j ≢ k → at m j ≡ at m k → SomeCrowded m
  twins-crowded j k h l n e = go (dec_lt j k)
    where
      go : Dec (j < k) → SomeCrowded m
      go (yes b) = (k, l, at-one-place j b e)
      go (no b) = (j, h, at-one-place k (omega arith) (sym e))

  named-corner : {t : Tri} → Memᴰ t m.tris → {k : ℕ} → Memᴰ k (corners t) → k < length m.nodes
  named-corner i j = let N = All-at law.named i in All-at {P = λ k. k < length m.nodes} (cons N.p-below (cons N.q-below (cons N.r-below nil))) j

  -- SUCH A CORNER IS CROWDED, OR ITS TWIN IS
  touches-crowded : {t u : Tri} → Memᴰ t m.tris → Memᴰ u m.tris → touches (at m) t u ≡ true → SomeCrowded m
  touches-crowded {t} {u} i j h = go (lt-or-le (facing A B C) (pos 0))
    where
      T : Touching (at m) t u
      T = touches-is (at m) t u h

      A : Place
      A = at m T.side.from

      B : Place
      B = at m T.side.to

      C : Place
      C = at m T.corner

      E : RowEdge m t T.side.from T.side.to
      E = row-edge m law i T.side-of

      at-twin : (C ≡ A) ⊎ (C ≡ B) → SomeCrowded m
      at-twin (inl e) = twins-crowded T.corner T.side.from (named-corner j T.corner-of) E.from-below T.on.not-from e
      at-twin (inr e) = twins-crowded T.corner T.side.to (named-corner j T.corner-of) E.to_below T.on.not-to e

      go : (facing A B C <ℤ pos 0) ⊎ (pos 0 ≤ℤ facing A B C) → SomeCrowded m
      go (inl l) = (T.corner, named-corner j T.corner-of, inside-edge t i T.side T.side-of (record { on_line = T.on.on_line; between = l }))
      go (inr l) = at-twin (at-end A B C T.on.on_line T.on.within E.long (le_antisymm T.on.within l))

  -- ---- the gravest

  module _ (r : ℕ) (g : Gravest m r) where
    row_in : (i : ℕ) → i < length m.tris → Memᴰ (row_of m.tris i) m.tris
    row_in i h = at_mem m.tris i (tri 0 0 0) h

    r-most : r ≤ 2
    r-most = go g.met
      where
        go : SomeTwo (grave_of m) (length m.tris) r → r ≤ 2
        go (none e) = omega arith
        go (two i j h l n e) = rw (sym e) (grave-most (at m) (row_of m.tris i) (row_of m.tris j))

    -- below 2 none is crowded
    none-crowded : r < 2 → uncrowded m ≡ true
    none-crowded h = (uncrowded-exact m).1 (λ k l c. (let t = crowded-touches k l c in found t.0 t.1 t.2 t.3 t.4 t.5 (dec_lt t.0 t.1)))
      where
        found : (i j : ℕ) → i < length m.tris → j < length m.tris → i ≢ j → touches (at m) (row_of m.tris i) (row_of m.tris j) ≡ true → Dec (i < j) → ⊥
        found i j a b n t (yes l) =
            let e = grave-touch (at m) (row_of m.tris i) (row_of m.tris j) (or_left (touches (at m) (row_of m.tris j) (row_of m.tris i)) t) in
            omega (arith, g.most i j l b)
        found i j a b n t (no l) =
            let e = grave-touch (at m) (row_of m.tris j) (row_of m.tris i) (or_right (touches (at m) (row_of m.tris j) (row_of m.tris i)) t) in
            omega (arith, g.most j i (omega arith) a)

    -- at 0 none overlap
    none-overlap : r < 1 → disjoint m ≡ true
    none-overlap h = (disjoint-exact m law).1 found
      where
        found : (i : ℕ) → i < length m.tris → Overlaps m i → ⊥
        found i l (with-lower j b s) =
            let e = (share-exact (shape m (row_of m.tris j)) (shape m (row_of m.tris i)) (above-pqr m law (row_in j (omega arith))) (above-pqr m law (row_in i l))).1 s in
            omega (arith, g.most j i b l, grave-overlap (at m) (row_of m.tris j) (row_of m.tris i) e)

    r-touch : uncrowded m ≡ true → r ≤ 1
    r-touch u = go g.met
      where
        go : SomeTwo (grave_of m) (length m.tris) r → r ≤ 1
        go (none e) = omega arith
        go (two i j h l n e) = at_most (grave-is (at m) (row_of m.tris i) (row_of m.tris j)) e
          where
            out : {X : Type 0} → SomeCrowded m → X
            out c = absurd ((uncrowded-exact m).0 u c.0 c.1 c.2)

            at_most : {k : ℕ} → GraveIs (at m) (row_of m.tris i) (row_of m.tris j) k → k ≡ r → r ≤ 1
            at_most (touch (inl t)) e = out (touches-crowded (row_in i h) (row_in j l) t)
            at_most (touch (inr t)) e = out (touches-crowded (row_in j l) (row_in i h) t)
            at_most (overlap t) e = omega arith
            at_most clear e = omega arith

    r-none : uncrowded m ≡ true → disjoint m ≡ true → r ≡ 0
    r-none u d = go g.met
      where
        go : SomeTwo (grave_of m) (length m.tris) r → r ≡ 0
        go (none e) = e
        go (two i j h l n e) = by (grave-is (at m) (row_of m.tris i) (row_of m.tris j)) e
          where
            unshared : (a b : ℕ) → a < b → b < length m.tris → ¬ Share (shape m (row_of m.tris a)) (shape m (row_of m.tris b))
            unshared a b x y s = (disjoint-exact m law).0 d b y (with-lower a x s)

            neither : Dec (i < j) → ¬ Share (shape m (row_of m.tris i)) (shape m (row_of m.tris j))
            neither (yes x) = unshared i j x l
            neither (no x) = λ s. unshared j i (omega arith) h (share_back s)

            by : {k : ℕ} → GraveIs (at m) (row_of m.tris i) (row_of m.tris j) k → k ≡ r → r ≡ 0
            by (touch t) e = let z = r-touch u in absurd (omega arith)
            by (overlap t) e = absurd (neither (dec_lt i j) ((share-exact (shape m (row_of m.tris i)) (shape m (row_of m.tris j)) (above-pqr m law (row_in i h)) (above-pqr m law (row_in j l))).0 t))
            by clear e = sym e

    -- THE GRAVEST OF ANY TWO ROWS IS THE SEVERITY
    pub gravest-is : r ≡ severity m
    unfolding severity
    gravest-is = go (uncrowded m) refl (disjoint m) refl
      where
        go : (u : Bool) → uncrowded m ≡ u → (d : Bool) → disjoint m ≡ d → r ≡ cases u (cases d 0 1) 2
        go true e true f = r-none e f
        go true e false f = by (dec_lt r 1)
          where
            by : Dec (r < 1) → r ≡ 1
            by (yes h) = clash (sym (none-overlap h) ∙ f)
            by (no h) = omega (arith, r-touch e)
        go false e d f = by (dec_lt r 2)
          where
            by : Dec (r < 2) → r ≡ 2
            by (yes h) = clash (sym (none-crowded h) ∙ e)
            by (no h) = omega (arith, r-most)
