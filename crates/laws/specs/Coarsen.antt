-- Demand 2 for coarsen: of any lawful mesh, with any n0 and any marks, exactly the nodes that are marked and good go, and what is left is
-- lawful, has the same total, and has the base nodes under their numbers. Assumes nothing.
use Rattle.std.proofs.Math.Bool.{Bool}
use Rattle.std.specs.Prelude.{true, false, not, ◌&&◌, ◌↔◌, ◌≡◌, refl, eqb, ltb, length, Option, None, Some}
use mathlib.Core.List.{List, [], ◌∷◌, map, Memᴰ}
use Rattle.std.proofs.Math.Path.{sym, subst}
use Prim.Native.Nat.{ℕ, ◌+◌, ◌≤◌, ◌<◌}
use native.Mathlib.Omega.{arith}
use Rattle.std.proofs.Common.{length-append, eqb-true}
use Rattle.std.proofs.lemmas.List.{length-map}
use Rattle.lists.specs.Lists.{any, only, first, joined, up_to, All}
use Rattle.lists.specs.ListsLaw.{and_both, and_left, and_right, All-at, All-of, any-row}
use Rattle.lists.specs.MembersLaw.{only-in, only-passes, only_keeps, up_to-below, up_to-in, up_to-once}
use Rattle.lists.specs.Tally.{bit, tally, count-tally, only-le}
use Rattle.meaning.specs.declared.Tri.{Tri}
use Rattle.meaning.specs.Mesh.{Mesh, same_tri, node_of, total}
use Rattle.meaning.specs.Lawful.{Lawful}
use Rattle.meaning.specs.Good.{Brothers, pairs, good}
use Rattle.meaning.specs.Coarsen.{marked, taken, becomes, fate, stays, renumber, renamed, without, coarsened}
use Rattle.laws.specs.Stay.{stayed-mono, stayed-all, renumber-lt, renumber-falls, staying-rest}
use Rattle.laws.specs.Star.{Pair, GoodStar, good-added, good-star}
use Rattle.laws.specs.CoarsenRows.{Takeable, Fate, brood, broods, fate-is}
use Rattle.laws.specs.Without.{without-length, without-node, without-below, without-onto, without-lawful, without-total, without-rows}

-- ---- the nodes that are taken

module _ (n0 : ℕ) (m : Mesh) (marks : List ℕ) where
  -- the nodes that go are those that are marked and good
  pub taken_is : (z : ℕ) → Memᴰ z (taken n0 m marks) ↔ ((z < length m.nodes) × (marked marks z ≡ true) × (good n0 m z ≡ true))
  unfolding taken
  taken_is z = (there, back)
    where
      test : ℕ → Bool
      test y = marked marks y && good n0 m y

      there : Memᴰ z (only test (up_to (length m.nodes))) → (z < length m.nodes) × (marked marks z ≡ true) × (good n0 m z ≡ true)
      there i =
          let e = All-at (only-passes test (up_to (length m.nodes))) i in
          (All-at (only_keeps test (up_to-below (length m.nodes))) i, and_left (marked marks z) (good n0 m z) e, and_right (marked marks z) (good n0 m z) e)

      back : (z < length m.nodes) × (marked marks z ≡ true) × (good n0 m z ≡ true) → Memᴰ z (only test (up_to (length m.nodes)))
      back h = only-in test (up_to-in (length m.nodes) h.0) (and_both h.1 h.2)

  taken-once : (k : ℕ) → tally (λ z. bit (eqb k z)) (taken n0 m marks) ≤ 1
  unfolding taken
  taken-once k =
      let a = only-le (λ z. bit (eqb k z)) (λ z. marked marks z && good n0 m z) (up_to (length m.nodes)) in
      let b = up_to-once (eqb k) k (λ j e. sym (eqb-true k j e)) (length m.nodes) in
      let c = count-tally (eqb k) (up_to (length m.nodes)) in
      omega arith

  -- as many nodes go as are taken
  pub coarsened-count : length (coarsened n0 m marks).nodes + length (taken n0 m marks) ≡ length m.nodes
  unfolding coarsened without
  coarsened-count = staying-rest (taken n0 m marks) taken-once m.nodes (All-of (taken n0 m marks) (λ z i. ((taken_is z).0 i).0))

becomes-one : (t : Tri) (o : Option Brothers) (b : Bool) → length (becomes t o b) ≤ 1
becomes-one t (Some x) b = omega arith
becomes-one t None true = omega arith
becomes-one t None false = omega arith

fates-fewer : (bs : List Brothers) (ts : List Tri) → length (joined (fate bs) ts) ≤ length ts
fates-fewer bs [] = omega arith
fates-fewer bs (t ∷ ts) =
    omega (
      arith,
      fates-fewer bs ts,
      length-append (fate bs t) (joined (fate bs) ts),
      becomes-one t (first (λ b. same_tri b.left t) bs) (any (λ b. same_tri b.right t) bs),
    )

-- no row is added, whatever the mesh
pub coarsened-rows : (n0 : ℕ) (m : Mesh) (marks : List ℕ) → length (coarsened n0 m marks).tris ≤ length m.tris
unfolding coarsened without
coarsened-rows n0 m marks =
    let zs = taken n0 m marks in
    rw (length-map (joined (fate (joined (pairs m) zs)) m.tris) (renamed zs)) (fates-fewer (joined (pairs m) zs) m.tris)

-- ---- coarsen

-- what taking the nodes zs, and no other, does
pub record Gone (m : Mesh) (zs : List ℕ) (after : Mesh) : Type 0 where
  pub node-count : length after.nodes + length zs ≡ length m.nodes
  pub row_count : length after.tris + length (brood m zs) ≡ length m.tris
  -- a node that stays is as it was, place and correction, under a number of the new mesh: as many as stay below it, so less by as many as go below it
  pub node_kept : (k : ℕ) → k < length m.nodes → stays zs k ≡ true → node_of after (renumber zs k) ≡ node_of m k
  pub number-below : (k : ℕ) → k < length m.nodes → stays zs k ≡ true → renumber zs k < length after.nodes
  pub number-falls : (k : ℕ) → renumber zs k + length (only (λ z. ltb z k) zs) ≡ k
  -- the order is kept
  pub order-kept : (a b : ℕ) → a < b → stays zs a ≡ true → renumber zs a < renumber zs b
  -- there is no other node
  pub no_other : (j : ℕ) → j < length after.nodes → (k : ℕ) × (k < length m.nodes) × (stays zs k ≡ true) × (renumber zs k ≡ j)
  -- the rows, in order: a left row becomes the father, its brother's row goes, a row that holds no such node stays
  pub rows_are : after.tris ≡ map (renamed zs) (joined (fate (brood m zs)) m.tris)
  pub row_fate : {t : Tri} → Memᴰ t m.tris → Fate (brood m zs) zs t (fate (brood m zs) t)
  pub brothers-are : All (λ b. (z : ℕ) × Memᴰ z zs × Pair m z b) (brood m zs)

-- what is kept of a mesh whose base has n0 nodes
pub record Preserved (n0 : ℕ) (m after : Mesh) : Type 0 where
  pub lawful : Lawful after
  pub total_kept : total after ≡ total m
  -- the base nodes are there, with their numbers, places and corrections
  pub base_there : n0 ≤ length after.nodes
  pub base_kept : (k : ℕ) → k < n0 → node_of after k ≡ node_of m k

module _ (n0 : ℕ) (m : Mesh) (marks : List ℕ) where
  -- a base node stays, with its number
  pub base_stays : (k : ℕ) → k < n0 → stays (taken n0 m marks) k ≡ true
  base_stays k h = go (any (eqb k) (taken n0 m marks)) refl
    where
      go : (b : Bool) → any (eqb k) (taken n0 m marks) ≡ b → not b ≡ true
      go true e =
          let r = any-row (eqb k) (taken n0 m marks) e in
          let w = eqb-true k r.0 r.2 in
          let l = good-added n0 m r.0 ((taken_is n0 m marks r.0).0 r.1).2 in
          absurd (omega arith)
      go false e = refl

  pub base-number : (k : ℕ) → k ≤ n0 → renumber (taken n0 m marks) k ≡ k
  base-number k h = stayed-all (taken n0 m marks) 0 k (λ j l. base_stays (0 + j) (omega arith))

  module _ (law : Lawful m) where
    taken-good : {z : ℕ} → Memᴰ z (taken n0 m marks) → (z < length m.nodes) × GoodStar n0 m z
    taken-good {z} i = let t = (taken_is n0 m marks z).0 i in (t.0, good-star n0 m z law t.2)

    pub takeable : Takeable m (taken n0 m marks)
    takeable = record {
      stars = All-of (taken n0 m marks) (λ z i. (taken-good i).1.round);
      once = taken-once n0 m marks;
      apart = λ y z i j e. (let b = taken-good j in sym ((taken-good i).1.alone z b.1.added b.0 b.1.round e));
    }

    pub coarsened-lawful : Lawful (coarsened n0 m marks)
    unfolding coarsened
    coarsened-lawful = without-lawful m (taken n0 m marks) law takeable

    pub coarsened-total : total (coarsened n0 m marks) ≡ total m
    unfolding coarsened
    coarsened-total = without-total m (taken n0 m marks) law takeable

    -- exactly the marked good nodes go
    pub coarsened-gone : Gone m (taken n0 m marks) (coarsened n0 m marks)
    unfolding coarsened without
    coarsened-gone =
        let zs = taken n0 m marks in
        record {
          node-count = coarsened-count n0 m marks;
          row_count = without-rows m zs law takeable;
          node_kept = without-node m zs;
          number-below = without-below m zs;
          number-falls = renumber-falls zs (taken-once n0 m marks);
          order-kept = renumber-lt zs;
          no_other = without-onto m zs;
          rows_are = refl;
          row_fate = λ {t} j. fate-is m zs law takeable j;
          brothers-are = broods m zs law takeable;
        }

    pub coarsened-preserved : n0 ≤ length m.nodes → Preserved n0 m (coarsened n0 m marks)
    unfolding coarsened
    coarsened-preserved le =
        let g = coarsened-gone in
        record {
          lawful = coarsened-lawful;
          total_kept = coarsened-total;
          base_there =
              (let a = without-length m (taken n0 m marks) in
              let b = stayed-mono (taken n0 m marks) 0 n0 (length m.nodes) le in
              let c = base-number n0 (omega arith) in
              omega arith);
          base_kept = λ k h.
              subst (λ j. node_of (coarsened n0 m marks) j ≡ node_of m k) (base-number k (omega arith)) (g.node_kept k (omega arith) (base_stays k h));
        }
