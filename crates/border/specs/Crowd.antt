-- Where no point off the rows is inside two of them and the border is quiet, no two nodes stand at one place and none lies strictly inside an edge.
-- Assumes nothing.
use Rattle.std.specs.Prelude.{Bool, true, false, not, ◌≢◌, ◌⊎◌, ◌≡◌, refl, ℕ, zero, suc, ◌<◌, eqb, ℤ, pos, neg_ℤ, length, ◌<ℤ◌}
use mathlib.Core.List.{Memᴰ}
use Rattle.std.proofs.Common.{inl, inr, sym, ap, subst, ◌∙◌, arith, eqb-true}
use Rattle.std.specs.Int.Signed.{lt_z}
use Rattle.whole.specs.Diff.{onℤ, negℤ-ud}
use Rattle.whole.specs.Tests.{lt_z-true, lt_z-false}
use Rattle.lists.specs.Lists.{any, count}
use Rattle.lists.specs.ListsLaw.{clash, any-row}
use Rattle.lists.specs.MembersLaw.{only-in, only_out, count-some, joined_in}
use Rattle.lists.specs.PartsLaw.{in-joined}
use Rattle.meaning.specs.declared.Tri.{Tri}
use Rattle.meaning.specs.Mesh.{Mesh, Arrow, tri, arrows, same_arrow, holds_node, holds_arrow, at}
use Rattle.meaning.specs.Lawful.{Lawful}
use Rattle.meaning.specs.Asking.{HoldsPoint}
use Rattle.meaning.specs.Proper.{StrictlyInside, left, shape}
use Rattle.laws.specs.Edges.{same_arrow-eq}
use Rattle.laws.specs.RowMean.{corner-of}
use Rattle.border.specs.Quiet.{Quiet}
use Rattle.border.specs.Places.{inside_back, apart-of-turn}
use Rattle.border.specs.Under.{left-swapped}
use Rattle.border.specs.Cancel.{reverse, arrows_of, border}
use Rattle.border.specs.Nudge.{Upright, Single, not-both, row-upright, nudged-off}
use Rattle.border.specs.Close.{toward, close, toward-weight, close-above}
use Rattle.border.specs.Fan.{Inner, row_inside, row_at, row-holds-node, fan-covers}
use Rattle.border.specs.Corners.{Turned, turned-arrow, turned-upright, turned-inside, turned-holds, turned-corner, beside, inside-no-corner, inside-held, one-corner}

-- ---- border arrows

-- a border arrow leaves node k
record Leaves (m : Mesh) (k : ℕ) : Type 0 where
  out : Arrow
  on-border : Memᴰ out (border m.tris)
  from-k : out.from ≡ k

inner-or-leaves : (m : Mesh) (k : ℕ) → Inner m k ⊎ Leaves m k
inner-or-leaves m k = go (count (λ e. eqb e.from k) (border m.tris)) refl
  where
    go : (n : ℕ) → count (λ e. eqb e.from k) (border m.tris) ≡ n → Inner m k ⊎ Leaves m k
    go zero e = inl e
    go (suc n) e =
        let (g, i, f) = count-some (λ (e : Arrow). eqb e.from k) (border m.tris) (omega arith) in
        inr (record { out = g; on-border = i; from-k = eqb-true g.from k f })

-- the row of a border arrow
pub border-row : (m : Mesh) {e : Arrow} → Memᴰ e (border m.tris) → (t : Tri) × Memᴰ t m.tris × Memᴰ e (arrows t)
border-row m i = in-joined arrows m.tris (only_out (λ e. not (any (holds_arrow (reverse e)) m.tris)) (arrows_of m.tris) i)

-- an arrow of a row is on the border, or another row holds it the other way round
data Other (m : Mesh) (e : Arrow) : Type 0 where
  on-border : Memᴰ e (border m.tris) → Other m e
  turned_round : (u : Tri) → Memᴰ u m.tris → Memᴰ (reverse e) (arrows u) → Other m e

other-side : (m : Mesh) {t : Tri} {e : Arrow} → Memᴰ t m.tris → Memᴰ e (arrows t) → Other m e
other-side m {t} {e} i j = go (any (holds_arrow (reverse e)) m.tris) refl
  where
    go : (b : Bool) → any (holds_arrow (reverse e)) m.tris ≡ b → Other m e
    go true h =
        let (u, k, f) = any-row (holds_arrow (reverse e)) m.tris h in
        let (d, l, g) = any-row (same_arrow (reverse e)) (arrows u) f in
        turned_round u k (subst (λ d. Memᴰ d (arrows u)) (sym (same_arrow-eq (reverse e) d g)) l)
    go false h = on-border (only-in (λ e. not (any (holds_arrow (reverse e)) m.tris)) (joined_in arrows i j) (ap not h))

-- ---- crowded nodes

module _ (m : Mesh) (law : Lawful m) (most : Single m) where
  -- a row that holds the place of an inner node names the node
  names-inner : (k : ℕ) → k < length m.nodes → Inner m k → {v : Tri} → Memᴰ v m.tris → HoldsPoint m (at m k) v → holds_node k v ≡ true
  names-inner k h inner {v} i held = go (holds_node k v) refl
    where
      go : (b : Bool) → holds_node k v ≡ b → b ≡ true
      go true e = refl
      go false e =
          let (u, j, f, a) = fan-covers m law k h inner (row-upright m law i) in
          absurd (not-both m law most (toward (at m k) (shape m v)) (toward-weight (at m k) (shape m v)) i j
          (λ w. clash (sym f ∙ sym (ap (holds_node k) w) ∙ e)) (row_inside m law (at m k) i held) a)

  inner-alone : (j k : ℕ) → j < length m.nodes → k < length m.nodes → Inner m k → at m j ≡ at m k → j ≡ k
  inner-alone j k g h inner e =
      let (v, i, f) = row_at m law j g in
      let held = subst (λ P. HoldsPoint m P v) e (row-holds-node m law j i f) in
      one-corner m (row-upright m law i) (corner-of v j f) (corner-of v k (names-inner k h inner i held)) e

  -- a row beside an edge with k strictly inside, and a row at k
  half : {t : Tri} {x y z : ℕ} → Memᴰ t m.tris → Turned t x y z → (k : ℕ) → StrictlyInside (at m x) (at m y) (at m k) → {v : Tri} → Memᴰ v m.tris → holds_node k v ≡ true →
      pos 0 <ℤ left (at m x) (at m y) (close (at m k) (shape m v)) → ⊥
  half {t} {x} {y} {z} i T k s {v} j f l =
      let u = turned-upright m T (row-upright m law i) in
      let r = row-upright m law j in
      let (a, b) = beside (at m x) (at m y) (at m z) (at m k) u.pqr s in
      not-both m law most (toward (at m k) (shape m v)) (toward-weight (at m k) (shape m v)) j i
      (λ w. inside-no-corner m u s (turned-corner T k (corner-of t k (subst (λ t. holds_node k t ≡ true) w f))))
      (row_inside m law (at m k) j (row-holds-node m law k j f))
      (turned-inside m (close (at m k) (shape m v)) T (record { pq = l; qr = close-above (at m k) r u.q-in u.r-in a; rp = close-above (at m k) r u.r-in u.p-in b }))

  -- k strictly inside an edge with a row on both sides
  inner-edge : {t u : Tri} {x y z z' : ℕ} → Memᴰ t m.tris → Turned t x y z → Memᴰ u m.tris → Turned u y x z' → (k : ℕ) → k < length m.nodes →
      StrictlyInside (at m x) (at m y) (at m k) → ⊥
  inner-edge {t} {u} {x} {y} {z} i T j U k h s =
      let (v, l, f) = row_at m law k h in
      let P = close (at m k) (shape m v) in
      let r = turned-upright m T (row-upright m law i) in
      let off = nudged-off r.p-in r.q-in (toward (at m k) (shape m v)) (apart-of-turn (at m x) (at m y) (at m z) r.pqr) in
      either_side (left (at m x) (at m y) P) (left (at m y) (at m x) P) off (left-swapped (at m x) (at m y) P)
      (half i T k s l f) (half j U k (inside_back s) l f)
    where
      either_side : (a b : ℤ) → a ≢ pos 0 → b ≡ neg_ℤ a → (pos 0 <ℤ a → ⊥) → (pos 0 <ℤ b → ⊥) → ⊥
      either_side a b n e f g = go (lt_z (pos 0) a) refl (lt_z (pos 0) b) refl
        where
          go : (t : Bool) → lt_z (pos 0) a ≡ t → (u : Bool) → lt_z (pos 0) b ≡ u → ⊥
          go true h u i = f (lt_z-true (pos 0) a h)
          go false h true i = g (lt_z-true (pos 0) b i)
          go false h false i =
              let k = lt_z-false (pos 0) a h in
              let l = lt_z-false (pos 0) b i in
              n (omega (arith, onℤ, negℤ-ud a))

  module _ (quiet : Quiet m) where
    -- two border nodes at one place
    leavers-apart : (j k : ℕ) → Leaves m j → Leaves m k → at m j ≡ at m k → j ≢ k → ⊥
    leavers-apart j k a b e n =
        let same = (quiet.no_touch a.out b.out a.on-border b.on-border).at-start (ap (at m) b.from-k ∙ sym e ∙ ap (at m) (sym a.from-k)) in
        n (sym a.from-k ∙ sym same ∙ b.from-k)

    -- not 11: "two nodes stand at one place"
    pub place-alone : (j k : ℕ) → j < k → k < length m.nodes → at m j ≢ at m k
    place-alone j k l h e = go (inner-or-leaves m j) (inner-or-leaves m k)
      where
        go : Inner m j ⊎ Leaves m j → Inner m k ⊎ Leaves m k → ⊥
        go (inl a) b = let w = inner-alone k j h (omega arith) a (sym e) in omega arith
        go (inr a) (inl b) = let w = inner-alone j k (omega arith) h b e in omega arith
        go (inr a) (inr b) = leavers-apart j k a b e (λ w. omega arith)

    -- not 11: "a node lies strictly inside an edge"
    pub edge-alone : (k : ℕ) → k < length m.nodes → {t : Tri} → Memᴰ t m.tris → {e : Arrow} → Memᴰ e (arrows t) → StrictlyInside (at m e.from) (at m e.to) (at m k) → ⊥
    edge-alone k h {t} i {e} j s = go (inner-or-leaves m k) (other-side m i j)
      where
        row : Tri
        row = tri e.from e.to (turned-arrow j).0

        turned : Turned t row.p row.q row.r
        turned = (turned-arrow j).1

        u : Upright (shape m row)
        u = turned-upright m turned (row-upright m law i)

        go : Inner m k ⊎ Leaves m k → Other m e → ⊥
        go (inl b) o =
            let named = names-inner k h b i (turned-holds m (at m k) turned (inside-held m u (at m k) s)) in
            inside-no-corner m u s (turned-corner turned k (corner-of t k named))
        go (inr b) (on-border c) = (quiet.no_touch e b.out c b.on-border).not-inside (subst (λ z. StrictlyInside (at m e.from) (at m e.to) (at m z)) (sym b.from-k) s)
        go (inr b) (turned_round v l c) = inner-edge i turned l (turned-arrow c).1 k h s
