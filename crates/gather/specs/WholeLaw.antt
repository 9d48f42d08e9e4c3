-- The tables that close up hold the coarsened mesh. Assumes nothing.
use Rattle.std.specs.Prelude.{◌≡◌, Bool, not, ◌&&◌, ℤ, pos, length}
use Rattle.std.proofs.Math.Path.{refl, sym, subst, ap}
use Rattle.std.proofs.Common.{◌∙◌}
use Rattle.std.proofs.Math.Bool.{true, false}
use mathlib.Core.List.{List, [], ◌∷◌, ◌++◌, map, map-append, Memᴰ}
use Prim.Native.Nat.{ℕ, zero, suc, ◌+◌, ◌-◌, ◌*◌, ◌≤◌, ◌<◌}
use native.Mathlib.Omega.{arith}
use Rattle.std.proofs.Math.Dec.{eqb}
use Rattle.std.proofs.Math.ListN.{get_or}
use Rattle.lists.specs.Lists.{cases, any, joined, cons_if}
use Rattle.lists.specs.Search.{items, items_from}
use Rattle.lists.specs.ByNumberLaw.{items-in}
use Rattle.lists.specs.Loops.{noted, remaining, remaining_from}
use Rattle.lists.specs.LoopsLaw.{noted-length, noted-at, noted-below, noted-above}
use Rattle.meaning.specs.declared.Node.{Node}
use Rattle.meaning.specs.declared.Tri.{Tri}
use Rattle.meaning.specs.Mesh.{Mesh}
use Rattle.meaning.specs.Lawful.{Lawful, Named}
use Rattle.meaning.specs.Good.{good}
use Rattle.meaning.specs.Coarsen.{marked, taken, fate, renumber, renamed, staying, without, coarsened}
use Rattle.meaning.specs.Tables.{row_at, node_at, flat_nodes, flat_rows, filled}
use Rattle.laws.specs.CoarsenRows.{brood}
use Rattle.laws.specs.Meshes.{mesh_at, count-nodes, row_named}
use Rattle.good.specs.Sign.{sign_from}
use Rattle.good.specs.Rival.{judged}
use Rattle.good.specs.RivalLaw.{sign-few}
use Rattle.gather.specs.Goes.{Small, take_at, fate_no, fate_at, gone_node, number_below, gone_row, father_by, renamed_by, new_row}
use Rattle.gather.specs.GoneLaw.{take_no, take-is, stays-is, number-renumber, fate-note, father-in}
use Rattle.gather.specs.Whole.{Going, Settled, tabled, counts, tabled_of}

-- ---- lists that close up

map-joined : {A B C : Type 0} (h : B → C) (f : A → List B) (l : List A) → map h (joined f l) ≡ joined (λ x. map h (f x)) l
map-joined h f [] = refl
map-joined h f (x ∷ l) = map-append h (f x) (joined f l) ∙ ap (λ r. map h (f x) ++ r) (map-joined h f l)

module _ {A B : Type 0} (g : A → List B) (a : ℕ → A) (gone : ℕ → Bool) (new : ℕ → B) where
  from-joined : (i k : ℕ) → ((j : ℕ) → i ≤ j → j < i + k → g (a j) ≡ cases (gone j) [] (new j ∷ [])) → joined g (items_from a i k) ≡ remaining_from gone new i k
  unfolding items_from remaining_from
  from-joined i zero h = refl
  from-joined i (suc k) h =
      rw (h i (omega arith) (omega arith)) (go (gone i) (from-joined (i + 1) k (λ j l u. h j (omega arith) (omega arith))))
    where
      go : (b : Bool) → joined g (items_from a (i + 1) k) ≡ remaining_from gone new (i + 1) k →
          cases b [] (new i ∷ []) ++ joined g (items_from a (i + 1) k) ≡ cases b (remaining_from gone new (i + 1) k) (new i ∷ remaining_from gone new (i + 1) k)
      go true e = e
      go false e = ap (λ r. new i ∷ r) e

  joined-remaining : (t : ℕ) → ((j : ℕ) → j < t → g (a j) ≡ cases (gone j) [] (new j ∷ [])) → joined g (items a 0 t) ≡ remaining gone new 0 t
  unfolding items remaining
  joined-remaining t h = from-joined 0 (t - 0) (λ j l u. h j (omega arith))

module _ (zs : List ℕ) (a : ℕ → Node) (gone : ℕ → Bool) where
  from-staying : (i k : ℕ) → ((j : ℕ) → i ≤ j → j < i + k → gone j ≡ any (eqb j) zs) → staying zs i (items_from a i k) ≡ remaining_from gone a i k
  unfolding items_from remaining_from
  from-staying i zero h = refl
  from-staying i (suc k) h =
      let e : i + 1 ≡ suc i = omega arith in
      let ih : staying zs (suc i) (items_from a (i + 1) k) ≡ remaining_from gone a (i + 1) k =
      subst (λ (x : ℕ). staying zs x (items_from a (i + 1) k) ≡ remaining_from gone a (i + 1) k) e (from-staying (i + 1) k (λ j l u. h j (omega arith) (omega arith))) in
      rw (h i (omega arith) (omega arith)) (go (any (eqb i) zs) ih)
    where
      go : (b : Bool) → staying zs (suc i) (items_from a (i + 1) k) ≡ remaining_from gone a (i + 1) k →
          cons_if (not b) (a i) (staying zs (suc i) (items_from a (i + 1) k)) ≡ cases b (remaining_from gone a (i + 1) k) (a i ∷ remaining_from gone a (i + 1) k)
      go true e = e
      go false e = ap (λ r. a i ∷ r) e

  staying-remaining : (n : ℕ) → ((j : ℕ) → j < n → gone j ≡ any (eqb j) zs) → staying zs 0 (items a 0 n) ≡ remaining gone a 0 n
  unfolding items remaining
  staying-remaining n h = from-staying 0 (n - 0) (λ j l u. h j (omega arith))

-- ---- the notes, one after the other: s₁ after the judging, s₂ who goes, s₃ fates, s₄ numbers

take-few : (n0 : ℕ) (m : Mesh) (marks : List ℕ) (z : ℕ) → Lawful m → length m.nodes ≤ 32_768 → take_no n0 m marks z ≤ 1_073_741_824
unfolding take_no
take-few n0 m marks z law few = go (marked marks z && good n0 m z)
  where
    go : (b : Bool) → cases b (sign_from n0 m z) 0 ≤ 1_073_741_824
    go true = sign-few n0 m z law few
    go false = omega arith

pub goes-noted : (n0 n nc : ℕ) (m : Mesh) (marks s₁ s₂ : List ℕ) → nc + n ≤ length s₁ → ((z : ℕ) → z < n → get_or s₁ (nc + z) 0 ≡ judged n0 m z) →
    s₂ ≡ noted nc (take_at marks s₁ nc) n s₁ → Going s₂ nc n0 m marks n
goes-noted n0 n nc m marks s₁ s₂ long j e = record {
  pairs = λ z h.
      (let a : get_or s₂ (nc + z) 0 ≡ take_at marks s₁ nc z = rw e (noted-at nc (take_at marks s₁ nc) n s₁ z 0 h long) in
      a ∙ take-is n0 m marks s₁ nc z (j z h));
}

module _ (nodes : List ℤ) (l : List ℕ) (n0 n t nc : ℕ) (marks : List ℕ) (law : Lawful (mesh_at nodes l n t)) (s₂ : List ℕ)
    (room : (n ≤ nc) × (nc ≤ 32_768)) (g : Going s₂ nc n0 (mesh_at nodes l n t) marks n) where
  pub pairs-few : Small s₂ nc n
  pairs-few =
      let a = room.0 in
      let b = room.1 in
      record {
        small = λ z h. (rw (g.pairs z h) (take-few n0 (mesh_at nodes l n t) marks z law (rw (count-nodes nodes l n t) (omega arith))));
      }

  module _ (s₃ s₄ : List ℕ) (long₂ : 2 * nc + t ≤ length s₂) (e₃ : s₃ ≡ noted (2 * nc) (fate_at l s₂ nc) t s₂)
      (e₄ : s₄ ≡ noted 0 (number_below (gone_node s₃ nc)) n s₃) where
    r0 : n ≤ nc
    r0 = room.0

    len₃ : length s₃ ≡ length s₂
    len₃ = rw e₃ (noted-length (2 * nc) (fate_at l s₂ nc) t s₂)

    pairs₃ : (z : ℕ) → z < n → get_or s₃ (nc + z) 0 ≡ take_no n0 (mesh_at nodes l n t) marks z
    pairs₃ z h =
        let r = r0 in
        let a : get_or s₃ (nc + z) 0 ≡ get_or s₂ (nc + z) 0 = rw e₃ (noted-below (2 * nc) (fate_at l s₂ nc) t s₂ (nc + z) 0 (omega arith)) in
        a ∙ g.pairs z h

    pairs₄ : (z : ℕ) → z < n → get_or s₄ (nc + z) 0 ≡ take_no n0 (mesh_at nodes l n t) marks z
    pairs₄ z h =
        let r = r0 in
        let a : get_or s₄ (nc + z) 0 ≡ get_or s₃ (nc + z) 0 = rw e₄ (noted-above 0 (number_below (gone_node s₃ nc)) n s₃ (nc + z) 0 (omega arith)) in
        a ∙ pairs₃ z h

    fates₄ : (i : ℕ) → i < t → get_or s₄ (2 * nc + i) 0 ≡ fate_no (take_no n0 (mesh_at nodes l n t) marks (row_at l i).p) (row_at l i)
    unfolding fate_at
    fates₄ i h =
        let r = r0 in
        let a : get_or s₄ (2 * nc + i) 0 ≡ get_or s₃ (2 * nc + i) 0 = rw e₄ (noted-above 0 (number_below (gone_node s₃ nc)) n s₃ (2 * nc + i) 0 (omega arith)) in
        let b : get_or s₃ (2 * nc + i) 0 ≡ fate_at l s₂ nc i = rw e₃ (noted-at (2 * nc) (fate_at l s₂ nc) t s₂ i 0 h (omega arith)) in
        a ∙ b ∙ ap (λ (x : ℕ). fate_no x (row_at l i)) (g.pairs (row_at l i).p (row_named nodes l n t law i h).p-below)

    gone₃ : (z : ℕ) → z < n → gone_node s₃ nc z ≡ any (eqb z) (taken n0 (mesh_at nodes l n t) marks)
    unfolding gone_node
    gone₃ z h = rw (pairs₃ z h) (stays-is n0 (mesh_at nodes l n t) marks z (rw (count-nodes nodes l n t) h))

    numbers₄ : (z : ℕ) → z < n → get_or s₄ z 0 ≡ renumber (taken n0 (mesh_at nodes l n t) marks) z
    numbers₄ z h =
        let r = r0 in
        let q = len₃ in
        let e : 0 + z ≡ z = omega arith in
        let b : get_or s₄ (0 + z) 0 ≡ number_below (gone_node s₃ nc) z = rw e₄ (noted-at 0 (number_below (gone_node s₃ nc)) n s₃ z 0 h (omega arith)) in
        (rw e at b) ∙ number-renumber (taken n0 (mesh_at nodes l n t) marks) (gone_node s₃ nc) n gone₃ z (omega arith)

    pub settled : Settled s₄ nc n0 (mesh_at nodes l n t) marks l n t
    settled = record { numbers = numbers₄; pairs = pairs₄; fates = fates₄ }

-- ---- the tables

module _ (nodes : List ℤ) (l s : List ℕ) (n0 n t nc : ℕ) (marks : List ℕ) (law : Lawful (mesh_at nodes l n t)) (room : (n ≤ nc) × (nc ≤ 32_768))
    (d : Settled s nc n0 (mesh_at nodes l n t) marks l n t) where
  few : length (mesh_at nodes l n t).nodes ≤ 32_768
  few = let a = room.0 in let b = room.1 in rw (count-nodes nodes l n t) (omega arith)

  below : (k : ℕ) → k < n → k < length (mesh_at nodes l n t).nodes
  below k h = rw (count-nodes nodes l n t) h

  node-goes : (z : ℕ) → z < n → gone_node s nc z ≡ any (eqb z) (taken n0 (mesh_at nodes l n t) marks)
  unfolding gone_node
  node-goes z h = rw (d.pairs z h) (stays-is n0 (mesh_at nodes l n t) marks z (below z h))

  nodes-left : remaining (gone_node s nc) (node_at nodes) 0 n ≡ (coarsened n0 (mesh_at nodes l n t) marks).nodes
  unfolding coarsened without mesh_at
  nodes-left = sym (staying-remaining (taken n0 (mesh_at nodes l n t) marks) (node_at nodes) (gone_node s nc) n node-goes)

  row_listed : (i : ℕ) → i < t → Memᴰ (row_at l i) (mesh_at nodes l n t).tris
  unfolding mesh_at
  row_listed i h = items-in (row_at l) t i h

  -- a row of nodes gets their new numbers
  renamed-by_notes : (w : Tri) → Named (length (mesh_at nodes l n t).nodes) w → renamed (taken n0 (mesh_at nodes l n t) marks) w ≡ renamed_by s w
  unfolding renamed_by
  renamed-by_notes w h =
      let p : w.p < n = rw (count-nodes nodes l n t) at h.p-below in
      let q : w.q < n = rw (count-nodes nodes l n t) at h.q-below in
      let r : w.r < n = rw (count-nodes nodes l n t) at h.r-below in
      rw (d.numbers w.p p, d.numbers w.q q, d.numbers w.r r)

  row-left : (i : ℕ) → i < t →
      map (renamed (taken n0 (mesh_at nodes l n t) marks)) (fate (brood (mesh_at nodes l n t) (taken n0 (mesh_at nodes l n t) marks)) (row_at l i)) ≡
      cases (gone_row s nc i) [] (new_row s nc l i ∷ [])
  unfolding gone_row new_row
  row-left i h =
      let m = mesh_at nodes l n t in
      let w = row_at l i in
      let k = fate_no (take_no n0 m marks w.p) w in
      ap (map (renamed (taken n0 m marks))) (fate-note n0 m marks law few w (row_listed i h))
      ∙ go (eqb k 1) refl
      ∙ rw (d.fates i h)
    where
      go : (b : Bool) → eqb (fate_no (take_no n0 (mesh_at nodes l n t) marks (row_at l i).p) (row_at l i)) 1 ≡ b →
          map (renamed (taken n0 (mesh_at nodes l n t) marks)) (cases b [] (father_by (row_at l i) (fate_no (take_no n0 (mesh_at nodes l n t) marks (row_at l i).p) (row_at l i)) ∷ [])) ≡
          cases b [] (renamed_by s (father_by (row_at l i) (fate_no (take_no n0 (mesh_at nodes l n t) marks (row_at l i).p) (row_at l i))) ∷ [])
      go true e = refl
      go false e = ap (λ x. x ∷ []) (renamed-by_notes (father_by (row_at l i) (fate_no (take_no n0 (mesh_at nodes l n t) marks (row_at l i).p) (row_at l i))) (father-in n0 (mesh_at nodes l n t) marks law few (row_at l i) (row_listed i h) e))

  rows_left : remaining (gone_row s nc) (new_row s nc l) 0 t ≡ (coarsened n0 (mesh_at nodes l n t) marks).tris
  unfolding coarsened without mesh_at
  rows_left =
      let m = mesh_at nodes l n t in
      sym (map-joined (renamed (taken n0 m marks)) (fate (brood m (taken n0 m marks))) (items (row_at l) 0 t)
      ∙ joined-remaining (λ w. map (renamed (taken n0 m marks)) (fate (brood m (taken n0 m marks)) w)) (row_at l) (gone_row s nc) (new_row s nc l) t row-left)

  pub all_left : (rows kept : ℕ) (l' : List ℕ) (nodes' : List ℤ) →
      rows ≡ length (remaining (gone_row s nc) (new_row s nc l) 0 t) → l' ≡ filled 0 (length l) (flat_rows (remaining (gone_row s nc) (new_row s nc l) 0 t)) →
      kept ≡ length (remaining (gone_node s nc) (node_at nodes) 0 n) → nodes' ≡ filled (pos 0) (length nodes) (flat_nodes (remaining (gone_node s nc) (node_at nodes) 0 n)) →
      tabled (counts kept rows) nodes' l' ≡ tabled_of (length nodes) (length l) (coarsened n0 (mesh_at nodes l n t) marks)
  unfolding tabled_of
  all_left rows kept l' nodes' a b c e = rw (a, b, c, e, rows_left, nodes-left)
