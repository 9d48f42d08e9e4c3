-- A node of a lawful mesh is good exactly if it has a number that no other node has. Assumes nothing.
use Rattle.std.specs.Prelude.{◌≡◌, ◌≢◌, Bool, not, ◌&&◌, ℕ, ◌+◌, ◌*◌, ◌≤◌, ◌<◌, min, max, eqb, ℤ, length, Option, Some, None, is_some}
use Rattle.std.proofs.Math.Path.{refl, ap}
use Rattle.std.proofs.Common.{sym, ◌∙◌, eqb-true, eq-eqb, leb-true, le-leb}
use Rattle.std.proofs.Math.Bool.{true, false}
use mathlib.Core.List.{List, [], ◌∷◌}
use native.Mathlib.Omega.{arith}
use Rattle.std.proofs.lemmas.Bool.{eqb-false}
use Rattle.std.proofs.Math.Dec.{leb}
use Rattle.std.proofs.Math.ListN.{get_or}
use Rattle.lists.specs.Lists.{cases, All, cons}
use Rattle.lists.specs.ListsLaw.{clash, and_both, and_left, and_right, both_ways, All-at, count-le-length}
use Rattle.lists.specs.PartsLaw.{not_so}
use Rattle.lists.specs.Tally.{bit}
use Rattle.lists.specs.Search.{lowest, items}
use Rattle.lists.specs.SearchLaw.{lowest-below, lowest-true, lowest-some}
use Rattle.lists.specs.IterLaw.{length-items}
use Rattle.lists.specs.Loops.{noted}
use Rattle.lists.specs.LoopsLaw.{noted-at}
use Rattle.meaning.specs.Mesh.{Mesh, Edge, holds_node}
use Rattle.meaning.specs.Lawful.{Lawful}
use Rattle.meaning.specs.Good.{Brothers, pairs, span_of, span, G1-4, G5, good}
use Rattle.meaning.specs.Tables.{node_at, row_at}
use Rattle.laws.specs.Star.{Pair, test-star, G5-alone, alone-G5, good-meets, good-added, good-alone, good-yes}
use Rattle.laws.specs.Meshes.{mesh_at, count-nodes}
use Rattle.good.specs.Sign.{pair_no, sign_of, sign_from, fresh}
use Rattle.good.specs.SignLaw.{pair-some, pair-le, pair_one}
use Rattle.good.specs.Rival.{numbers_at, rivals, lone, tagged, Tags, judged}
use Rattle.good.specs.WalkLaw.{tagged-agree}

-- ---- the number of a node

module _ (n0 : ℕ) (m : Mesh) (z : ℕ) where
  sign-meets : sign_from n0 m z ≢ 0 → (n0 ≤ z) × (G1-4 m z ≡ true) × (sign_from n0 m z ≡ pair_no (span m z))
  unfolding sign_from sign_of
  sign-meets o = go (leb n0 z) refl (G1-4 m z) refl o
    where
      go : (a : Bool) → leb n0 z ≡ a → (b : Bool) → G1-4 m z ≡ b → cases a (cases b (pair_no (span m z)) 0) 0 ≢ 0 →
          (n0 ≤ z) × (G1-4 m z ≡ true) × (cases a (cases b (pair_no (span m z)) 0) 0 ≡ pair_no (span m z))
      go true p true q o = (leb-true n0 z p, q, refl)
      go true p false q o = absurd (o refl)
      go false p b q o = absurd (o refl)

  pub meets-sign : n0 ≤ z → G1-4 m z ≡ true → sign_from n0 m z ≡ pair_no (span m z)
  unfolding sign_from sign_of
  meets-sign a b = rw (le-leb n0 z a, b)

  -- no number: not good
  good-no : sign_from n0 m z ≡ 0 → false ≡ good n0 m z
  good-no e = sym (not_so (good n0 m z) never)
    where
      never : good n0 m z ≡ true → ⊥
      never g =
          let a = meets-sign (good-added n0 m z g) (good-meets n0 m z g) in
          let b = pair-some (span m z) in
          omega arith

  -- a number: G5 decides
  good-by : (r : Bool) → sign_from n0 m z ≢ 0 → r ≡ G5 n0 m z → r ≡ good n0 m z
  good-by r o e =
      let h = sign-meets o in
      e ∙ both_ways (G5 n0 m z) (good n0 m z) (λ g. good-yes n0 m z h.0 h.1 g) (λ g. good-alone n0 m z g)

  module _ (law : Lawful m) (few : length m.nodes ≤ 32_768) (g : G1-4 m z ≡ true) where
    -- the pair's ends are nodes
    span-few : ((span m z).lo < 32_768) × ((span m z).hi < 32_768)
    unfolding span
    span-few = go (pairs m z) (test-star m z law g).pair
      where
        go : (bs : List Brothers) → All (Pair m z) bs → ((span_of bs).lo < 32_768) × ((span_of bs).hi < 32_768)
        go [] h = (omega arith, omega arith)
        go (b ∷ bs) (cons p h) =
            let l = All-at law.named p.left-row in
            let r = All-at law.named p.right-row in
            ends b.left.r b.right.q (omega (arith, l.r-below)) (omega (arith, r.q-below))
          where
            ends : (x y : ℕ) → x < 32_768 → y < 32_768 → (min x y < 32_768) × (max x y < 32_768)
            ends x y a b = (omega arith, omega arith)

  pub sign-few : Lawful m → length m.nodes ≤ 32_768 → sign_from n0 m z ≤ 1_073_741_824
  sign-few law few = go (eqb (sign_from n0 m z) 0) refl
    where
      go : (b : Bool) → eqb (sign_from n0 m z) 0 ≡ b → sign_from n0 m z ≤ 1_073_741_824
      go true e = let q = eqb-true (sign_from n0 m z) 0 e in omega arith
      go false e =
          let h = sign-meets (eqb-false (sign_from n0 m z) 0 e) in
          let s = span-few law few h.1 in
          bound (span m z) h.2 s.0 s.1
        where
          bound : (d : Edge) → sign_from n0 m z ≡ pair_no d → d.lo < 32_768 → d.hi < 32_768 → sign_from n0 m z ≤ 1_073_741_824
          bound d e a b = rw e (pair-le d a b)

-- ---- G5

module _ (n0 : ℕ) (m : Mesh) (z : ℕ) (law : Lawful m) (few : length m.nodes ≤ 32_768) (o : sign_from n0 m z ≢ 0) where
  mine : (n0 ≤ z) × (G1-4 m z ≡ true) × (sign_from n0 m z ≡ pair_no (span m z))
  mine = sign-meets n0 m z o

  there : G5 n0 m z ≡ true → not (is_some (lowest (rivals (sign_from n0 m) z) 0 (length m.nodes))) ≡ true
  there g = go (lowest (rivals (sign_from n0 m) z) 0 (length m.nodes)) refl
    where
      go : (f : Option ℕ) → lowest (rivals (sign_from n0 m) z) 0 (length m.nodes) ≡ f → not (is_some f) ≡ true
      go None e = refl
      go (Some y) e =
          let b = lowest-below (rivals (sign_from n0 m) z) (length m.nodes) y e in
          let t = lowest-true (rivals (sign_from n0 m) z) (length m.nodes) y e in
          let q = eqb-true (sign_from n0 m y) (sign_from n0 m z) (and_left (eqb (sign_from n0 m y) (sign_from n0 m z)) (not (eqb y z)) t) in
          let ne = and_right (eqb (sign_from n0 m y) (sign_from n0 m z)) (not (eqb y z)) t in
          let his = sign-meets n0 m y (λ w. o (sym q ∙ w)) in
          let d = pair_one (span m z) (span m y) (span-few n0 m z law few mine.1).1 (span-few n0 m y law few his.1).1 (sym mine.2 ∙ sym q ∙ his.2) in
          let w = G5-alone n0 m z g y his.0 b his.1 d in
          clash (sym ne ∙ ap not (eq-eqb y z w))

  back : not (is_some (lowest (rivals (sign_from n0 m) z) 0 (length m.nodes))) ≡ true → G5 n0 m z ≡ true
  back e = alone-G5 n0 m z alone
    where
      alone : (y : ℕ) → n0 ≤ y → y < length m.nodes → G1-4 m y ≡ true → span m z ≡ span m y → y ≡ z
      alone y a l g d = go (eqb y z) refl
        where
          go : (b : Bool) → eqb y z ≡ b → y ≡ z
          go true w = eqb-true y z w
          go false w =
              let q : sign_from n0 m y ≡ sign_from n0 m z = meets-sign n0 m y a g ∙ ap pair_no (sym d) ∙ sym mine.2 in
              let f = lowest-some (rivals (sign_from n0 m) z) (length m.nodes) y l (and_both (eq-eqb (sign_from n0 m y) (sign_from n0 m z) q) (ap not w)) in
              clash (sym e ∙ ap not f)

  G5-is : not (is_some (lowest (rivals (sign_from n0 m) z) 0 (length m.nodes))) ≡ G5 n0 m z
  G5-is = both_ways _ (G5 n0 m z) back there

-- ---- good

-- A NODE IS GOOD EXACTLY IF IT HAS A NUMBER THAT NO OTHER NODE HAS
lone-good : (n0 : ℕ) (m : Mesh) (z : ℕ) → Lawful m → length m.nodes ≤ 32_768 → lone (sign_from n0 m) (length m.nodes) z ≡ good n0 m z
lone-good n0 m z law few = go (eqb (sign_from n0 m z) 0) refl
  where
    go : (b : Bool) → eqb (sign_from n0 m z) 0 ≡ b → not b && not (is_some (lowest (rivals (sign_from n0 m) z) 0 (length m.nodes))) ≡ good n0 m z
    go true e = good-no n0 m z (eqb-true (sign_from n0 m z) 0 e)
    go false e = let o = eqb-false (sign_from n0 m z) 0 e in good-by n0 m z _ o (G5-is n0 m z law few o)

module _ (nodes : List ℤ) (rows : List ℕ) (n0 n t : ℕ) (law : Lawful (mesh_at nodes rows n t)) where
  -- where there is a node there is a row
  pub some-row : 0 < n → 0 < t
  unfolding mesh_at
  some-row h =
      let m = mesh_at nodes rows n t in
      let a = law.used 0 (rw (length-items (node_at nodes) n) h) in
      let b = count-le-length (holds_node 0) (items (row_at rows) 0 t) in
      let c = length-items (row_at rows) t in
      omega arith

  -- the numbers noted by s₁, tagged by s₂
  pub all-judged : (s s₁ s₂ : List ℕ) (nc : ℕ) → s₁ ≡ noted nc (fresh n0 (mesh_at nodes rows n t)) n s →
      Tags s₁ s₂ nc n → n ≤ 32_768 → nc + n ≤ length s → (z : ℕ) → z < n → get_or s₂ (nc + z) 0 ≡ judged n0 (mesh_at nodes rows n t) z
  unfolding tagged
  all-judged s s₁ s₂ nc e f few room z h =
      f.each z h ∙ tagged-agree (numbers_at s₁ nc) (sign_from n0 (mesh_at nodes rows n t)) n z h number
      ∙ ap (λ (b : Bool). 2 * sign_from n0 (mesh_at nodes rows n t) z + bit b) (rw (count-nodes nodes rows n t) at (lone-good n0 (mesh_at nodes rows n t) z law (rw (count-nodes nodes rows n t) few)))
    where
      number : (y : ℕ) → y < n → numbers_at s₁ nc y ≡ sign_from n0 (mesh_at nodes rows n t) y
      number y l =
          let q : get_or s₁ (nc + y) 0 ≡ fresh n0 (mesh_at nodes rows n t) y = rw e (noted-at nc (fresh n0 (mesh_at nodes rows n t)) n s y 0 l room) in
          omega arith
