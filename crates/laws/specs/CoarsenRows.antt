-- The rows after the nodes zs have gone, before the nodes are renumbered: the rows that hold none of them, and the fathers. Assumes nothing.
--
-- A row holds at most one of the nodes, as its newest vertex; so the pairs round the nodes are the rows that hold one, each once
-- (`before`). A row that is the left one of a pair becomes the father and one that is the right one goes, so afterwards the fathers stand
-- for the pairs (`after`). Both are sums over the rows of any number f, so that counts of arrows and nodes, and areas, follow alike.
use Rattle.std.specs.Prelude.{Bool, true, false, not, ◌≡◌, refl, ℕ, ◌+◌, ◌≤◌, eqb, Option}
use mathlib.Core.List.{List, [], ◌∷◌, Memᴰ}
use Rattle.std.proofs.Common.{sym, ap, ◌∙◌, arith, eq-eqb}
use Rattle.lists.specs.Lists.{any, joined, All, nil, cons}
use Rattle.lists.specs.ListsLaw.{or_left, both_ways, All-imp, All-at, All-of, All-joined, any_at, any-row, any_none, FirstIs, no_row, row, first-is}
use Rattle.lists.specs.MembersLaw.{only-in}
use Rattle.lists.specs.Tally.{if-so, bit, bit_le, bit-yes, bit-no, bit-one, if-swap, tally, tally-le, tally-eq, tally-add, tally-only, tally-parts, tally-joined, tally-swap, bits-some, bits_none, if-any, pick-one}
use Rattle.meaning.specs.declared.Tri.{Tri}
use Rattle.meaning.specs.Mesh.{Mesh, same_tri, holds_node}
use Rattle.meaning.specs.Lawful.{Lawful}
use Rattle.meaning.specs.Good.{Brothers, father, pairs, span}
use Rattle.meaning.specs.Coarsen.{becomes, fate}
use Rattle.laws.specs.Edges.{same_tri-comm, same_tri-refl}
use Rattle.laws.specs.Pairs.{row-once}
use Rattle.laws.specs.Star.{Pair, Star}

-- a row holds one of the nodes
abbrev pub touched : List ℕ → Tri → Bool
touched zs t = any (λ z. holds_node z t) zs

-- the brothers round the nodes
abbrev pub brood : Mesh → List ℕ → List Brothers
brood m zs = joined (pairs m) zs

-- what becomes of row t: "The left row becomes" the father, "the brothers' rows go", and a row that holds none of the nodes stays
pub data Fate (bs : List Brothers) (zs : List ℕ) (t : Tri) : List Tri → Type 0 where
  to-father : {b : Brothers} → Memᴰ b bs → same_tri b.left t ≡ true → Fate bs zs t (father b ∷ [])
  to_none : {b : Brothers} → Memᴰ b bs → same_tri b.right t ≡ true → All (λ b. same_tri b.left t ≡ false) bs → touched zs t ≡ true → Fate bs zs t []
  to-self : All (λ b. same_tri b.left t ≡ false) bs → touched zs t ≡ false → Fate bs zs t (t ∷ [])

-- the nodes may be taken together: they meet G1 to G4, are listed once, and no two have the same pair b, c
pub record Takeable (m : Mesh) (zs : List ℕ) : Type 0 where
  pub stars : All (Star m) zs
  pub once : (k : ℕ) → tally (λ z. bit (eqb k z)) zs ≤ 1
  pub apart : (y z : ℕ) → Memᴰ y zs → Memᴰ z zs → span m y ≡ span m z → y ≡ z

module _ (m : Mesh) (zs : List ℕ) (law : Lawful m) (ok : Takeable m zs) where
  -- a row that holds such a node has it for its newest vertex
  pub newest-of : (z : ℕ) (t : Tri) → Memᴰ z zs → Memᴰ t m.tris → holds_node z t ≡ true → t.p ≡ z
  newest-of z t i j e = All-at (All-at ok.stars i).newest (only-in (holds_node z) j e)

  -- so no row holds two of them
  touch-once : {t : Tri} → Memᴰ t m.tris → tally (λ z. bit (holds_node z t)) zs ≤ 1
  touch-once {t} j =
      let a = tally-le (λ z. bit (holds_node z t)) (λ z. bit (eqb t.p z)) (All-of zs (λ z i. bit_le (holds_node z t) (eqb t.p z) (λ e. eq-eqb t.p z (newest-of z t i j e)))) in
      let b = ok.once t.p in
      omega arith

  -- the rows before: those that hold no such node, and the brothers
  pub before : (f : Tri → ℕ) → tally f m.tris ≡ tally (λ t. if-so (not (touched zs t)) (f t)) m.tris + tally (λ b. f b.left + f b.right) (brood m zs)
  before f =
      let a = tally-parts f (touched zs) m.tris in
      let b = tally-eq (λ t. if-so (touched zs t) (f t)) (λ t. tally (λ z. if-so (holds_node z t) (f t)) zs) (All-of m.tris (λ t j. sym (if-any (λ z. holds_node z t) (f t) zs (touch-once j)))) in
      let c = tally-swap (λ t z. if-so (holds_node z t) (f t)) m.tris zs in
      let d = tally-eq (λ z. tally (λ t. if-so (holds_node z t) (f t)) m.tris) (λ z. tally (λ b. f b.left + f b.right) (pairs m z)) (All-imp (λ z s. sym (tally-only f (holds_node z) m.tris) ∙ sym (s.rows f)) ok.stars) in
      let e = tally-joined (λ b. f b.left + f b.right) (pairs m) zs in
      omega arith

  row-once-here : (t : Tri) → tally (λ u. bit (same_tri u t)) m.tris ≤ 1
  row-once-here t =
      let a = tally-eq (λ u. bit (same_tri u t)) (λ u. bit (same_tri t u)) (All-of m.tris (λ u i. ap bit (same_tri-comm u t))) in
      let b = row-once m law t in
      omega arith

  -- a row that holds such a node is one of the brothers, once; any other is none of them
  pair-count : {t : Tri} → Memᴰ t m.tris → tally (λ b. bit (same_tri b.left t) + bit (same_tri b.right t)) (brood m zs) ≡ bit (touched zs t)
  pair-count {t} j =
      let h = row-once-here t in
      let a = before (λ u. bit (same_tri u t)) in
      let b = pick-one (λ u. same_tri u t) (λ u. 1) j (same_tri-refl t) h in
      let c = tally-eq (λ u. if-so (not (touched zs u)) (bit (same_tri u t))) (λ u. if-so (same_tri u t) (bit (not (touched zs u)))) (All-of m.tris (λ u i. if-swap (not (touched zs u)) (same_tri u t))) in
      let d = pick-one (λ u. same_tri u t) (λ u. bit (not (touched zs u))) j (same_tri-refl t) h in
      let e = one (touched zs t) in
      omega arith
    where
      one : (b : Bool) → bit b + bit (not b) ≡ 1
      one true = omega arith
      one false = omega arith

  pair_parts : {t : Tri} → Memᴰ t m.tris → tally (λ b. bit (same_tri b.left t)) (brood m zs) + tally (λ b. bit (same_tri b.right t)) (brood m zs) ≡ bit (touched zs t)
  pair_parts {t} j =
      let a = pair-count j in
      let b = tally-add (λ b. bit (same_tri b.left t)) (λ b. bit (same_tri b.right t)) (brood m zs) in
      omega arith

  pub fate-is : {t : Tri} → Memᴰ t m.tris → Fate (brood m zs) zs t (fate (brood m zs) t)
  fate-is {t} j = go (first-is (λ b. same_tri b.left t) (brood m zs)) (any (λ b. same_tri b.right t) (brood m zs)) refl
    where
      go : {o : Option Brothers} → FirstIs (λ b. same_tri b.left t) (brood m zs) o → (r : Bool) → any (λ b. same_tri b.right t) (brood m zs) ≡ r → Fate (brood m zs) zs t (becomes t o r)
      go (row i e) r w = to-father i e
      go (no_row n) true w =
          let x = any-row (λ b. same_tri b.right t) (brood m zs) w in
          let a = bits-some (λ b. same_tri b.right t) x.1 x.2 in
          let b = pair_parts j in
          to_none x.1 x.2 n (bit-yes (touched zs t) (omega arith))
      go (no_row n) false w =
          let a = bits_none (λ b. same_tri b.left t) (λ b. 1) n in
          let c = bits_none (λ b. same_tri b.right t) (λ b. 1) (any_none (λ b. same_tri b.right t) (brood m zs) w) in
          let b = pair_parts j in
          to-self n (bit-no (touched zs t) (omega arith))

  -- the brothers are pairs of rows round nodes that go
  pub broods : All (λ b. (z : ℕ) × Memᴰ z zs × Pair m z b) (brood m zs)
  broods = All-joined (pairs m) (All-of zs (λ z i. All-imp (λ b h. (z, i, h)) (All-at ok.stars i).pair))

  -- the rows after: those that held no such node, and the fathers
  pub after : (f : Tri → ℕ) → tally f (joined (fate (brood m zs)) m.tris) ≡ tally (λ t. if-so (not (touched zs t)) (f t)) m.tris + tally (λ b. f (father b)) (brood m zs)
  after f =
      let a = tally-joined f (fate (brood m zs)) m.tris in
      let b = tally-eq (λ t. tally f (fate (brood m zs) t)) (λ t. if-so (not (touched zs t)) (f t) + tally (λ b. if-so (same_tri b.left t) (f (father b))) (brood m zs)) (All-of m.tris (λ t j. one j (fate-is j))) in
      let c = tally-add (λ t. if-so (not (touched zs t)) (f t)) (λ t. tally (λ b. if-so (same_tri b.left t) (f (father b))) (brood m zs)) m.tris in
      let d = tally-swap (λ t b. if-so (same_tri b.left t) (f (father b))) m.tris (brood m zs) in
      let e = tally-eq (λ b. tally (λ t. if-so (same_tri b.left t) (f (father b))) m.tris) (λ b. f (father b)) (All-imp (λ b h. pick-one (same_tri b.left) (λ t. f (father b)) h.2.left-row (same_tri-refl b.left) (row-once m law b.left)) broods) in
      omega arith
    where
      one : {t : Tri} {us : List Tri} → Memᴰ t m.tris → Fate (brood m zs) zs t us → tally f us ≡ if-so (not (touched zs t)) (f t) + tally (λ b. if-so (same_tri b.left t) (f (father b))) (brood m zs)
      one {t} j (to-father {b = b} i e) =
          let p = pair_parts j in
          let l = bits-some (λ b. same_tri b.left t) i e in
          let q = bit-one (touched zs t) in
          let g = pick-one (λ b. same_tri b.left t) (λ b. f (father b)) i e (omega arith) in
          let y = bit-yes (touched zs t) (omega arith) in
          let w = ap (λ b. if-so (not b) (f t)) y in
          omega arith
      one {t} j (to_none _ _ n y) =
          let g = bits_none (λ b. same_tri b.left t) (λ b. f (father b)) n in
          let w = ap (λ b. if-so (not b) (f t)) y in
          omega arith
      one {t} j (to-self n y) =
          let g = bits_none (λ b. same_tri b.left t) (λ b. f (father b)) n in
          let w = ap (λ b. if-so (not b) (f t)) y in
          omega arith

  -- what holds of the fathers, and of the rows that held no such node, holds of all
  pub after-all : {P : Tri → Type 0} → All (λ b. P (father b)) (brood m zs) → ((t : Tri) → Memᴰ t m.tris → touched zs t ≡ false → P t) → All P (joined (fate (brood m zs)) m.tris)
  after-all {P} h k = All-joined (fate (brood m zs)) (All-of m.tris (λ t j. one j (fate-is j)))
    where
      one : {t : Tri} {us : List Tri} → Memᴰ t m.tris → Fate (brood m zs) zs t us → All P us
      one j (to-father i e) = cons (All-at h i) nil
      one j (to_none _ _ n y) = nil
      one {t} j (to-self n y) = cons (k t j y) nil

  -- a row that holds such a node has it for its newest vertex
  pub touched-is : {t : Tri} → Memᴰ t m.tris → touched zs t ≡ any (eqb t.p) zs
  touched-is {t} j = both_ways (touched zs t) (any (eqb t.p) zs) there back
    where
      there : touched zs t ≡ true → any (eqb t.p) zs ≡ true
      there e = let r = any-row (λ z. holds_node z t) zs e in any_at (eqb t.p) (eq-eqb t.p r.0 (newest-of r.0 t r.1 j r.2)) r.1

      back : any (eqb t.p) zs ≡ true → touched zs t ≡ true
      back e =
          let r = any-row (eqb t.p) zs e in
          any_at (λ z. holds_node z t) (or_left (eqb t.r r.0) (or_left (eqb t.q r.0) r.2)) r.1
