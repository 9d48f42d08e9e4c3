-- What pairing off two or four rows gives, and with it G2 and the pair b, c. Assumes nothing.
use Rattle.std.specs.Prelude.{◌≡◌, Bool, ◌&&◌, ◌||◌, List, [], ◌∷◌, ℕ, suc, ◌+◌, ◌≤◌, ◌<◌, min, max, length}
use Rattle.std.proofs.Math.Path.{refl, sym, ap}
use Rattle.std.proofs.Common.{subst, ◌∙◌, arith}
use Rattle.std.proofs.Math.Bool.{true, false}
use Rattle.std.proofs.Math.Dec.{eqb}
use borrow.Author.Tests.{ne_eqb}
use Rattle.lists.specs.Lists.{cases, all}
use Rattle.lists.specs.ListsLaw.{clash, and_right}
use Rattle.lists.specs.Tally.{bit}
use Rattle.lists.specs.Search.{items}
use Rattle.meaning.specs.declared.Tri.{Tri}
use Rattle.meaning.specs.Mesh.{Edge, edge, arrow, same_tri, holds_arrow}
use Rattle.meaning.specs.Good.{Brothers, brothers, rows_of, pair_off, pairs, span_of, span, closes, G1, G2}
use Rattle.meaning.specs.Tables.{row_at}
use Rattle.laws.specs.Edges.{same_tri-refl, same_tri-comm}
use Rattle.laws.specs.Pairs.{RowsOnce, only-rows}
use Rattle.laws.specs.Meshes.{rows_alone, Fair}
use Rattle.round.specs.Round.{newest, rows_round, Around, Numbers, round_by, row_in}
use Rattle.round.specs.RoundLaw.{Shape, two, four, other, shape_is, shape-test, round-rows, older-none}
use Rattle.round.specs.Pair.{joins, closing, four_test, brother_of, two_in, four_in, brother_in, edge_of}

-- ---- two rows

one : Tri → Tri → ℕ → List Brothers
one x y z = cases (joins x y z) (brothers x y ∷ []) []

pairs-of-two : (w v : Tri) (z : ℕ) → pair_off 2 z (w ∷ v ∷ []) ≡ one w v z
unfolding one joins
pairs-of-two w v z = go (holds_arrow (arrow w.q z) v) refl
  where
    go : (b : Bool) → holds_arrow (arrow w.q z) v ≡ b → pair_off 2 z (w ∷ v ∷ []) ≡ cases b (brothers w v ∷ []) []
    go true e = rw (e, same_tri-refl v)
    go false e = rw e

-- ---- four

last-pair : (x y : Tri) (z : ℕ) → pair_off 1 z (x ∷ y ∷ []) ≡ one x y z
unfolding one joins
last-pair x y z = go (holds_arrow (arrow x.q z) y) refl
  where
    go : (b : Bool) → holds_arrow (arrow x.q z) y ≡ b → pair_off 1 z (x ∷ y ∷ []) ≡ cases b (brothers x y ∷ []) []
    go true e = rw e
    go false e = rw e

four-pairs : Tri → Tri → Tri → Tri → ℕ → List Brothers
four-pairs w x y v z =
    cases (joins w x z) (brothers w x ∷ one y v z)
    (cases (joins w y z) (brothers w y ∷ one x v z)
    (cases (joins w v z) (brothers w v ∷ one x y z)
    []))

-- rows that differ
bits-apart : (a b : Bool) (k : ℕ) → bit a + (bit b + k) ≤ 1 → a ≡ true → b ≡ false
bits-apart a true k h e = let q = ap bit e in absurd (omega arith)
bits-apart a false k h e = refl

module _ (w x y v : Tri) (z : ℕ) (o : RowsOnce (w ∷ x ∷ y ∷ v ∷ [])) where
  x-y : same_tri x y ≡ false
  x-y = bits-apart (same_tri x x) (same_tri x y) (bit (same_tri x v) + 0) (let h = o x in omega arith) (same_tri-refl x)

  x-v : same_tri x v ≡ false
  x-v = bits-apart (same_tri x x) (same_tri x v) 0 (let h = o x in omega arith) (same_tri-refl x)

  y-v : same_tri y v ≡ false
  y-v = bits-apart (same_tri y y) (same_tri y v) 0 (let h = o y in omega arith) (same_tri-refl y)

  y-x : same_tri y x ≡ false
  y-x = same_tri-comm y x ∙ x-y

  v-x : same_tri v x ≡ false
  v-x = same_tri-comm v x ∙ x-v

  v-y : same_tri v y ≡ false
  v-y = same_tri-comm v y ∙ y-v

  pairs-of-four : pair_off 2 z (w ∷ x ∷ y ∷ v ∷ []) ≡ four-pairs w x y v z
  unfolding four-pairs joins
  pairs-of-four =
      go (holds_arrow (arrow w.q z) x) refl (holds_arrow (arrow w.q z) y) refl (holds_arrow (arrow w.q z) v) refl
    where
      go : (a : Bool) → holds_arrow (arrow w.q z) x ≡ a → (b : Bool) → holds_arrow (arrow w.q z) y ≡ b → (c : Bool) → holds_arrow (arrow w.q z) v ≡ c →
          pair_off 2 z (w ∷ x ∷ y ∷ v ∷ []) ≡ cases a (brothers w x ∷ one y v z) (cases b (brothers w y ∷ one x v z) (cases c (brothers w v ∷ one x y z) []))
      go true e b f c g = rw (e, same_tri-refl x, x-y, x-v) (ap (λ l. brothers w x ∷ l) (last-pair y v z))
      go false e true f c g = rw (e, f, y-x, same_tri-refl y, y-v) (ap (λ l. brothers w y ∷ l) (last-pair x v z))
      go false e false f true g = rw (e, f, g, v-x, v-y, same_tri-refl v) (ap (λ l. brothers w v ∷ l) (last-pair x y z))
      go false e false f false g = rw (e, f, g)

  one-closes : (u a b : Tri) → closes true (brothers w u ∷ one a b z) ≡ closing w u a b z
  unfolding one closing
  one-closes u a b = go (joins a b z)
    where
      go : (c : Bool) → closes true (brothers w u ∷ cases c (brothers a b ∷ []) []) ≡ c && (eqb a.r u.q && eqb b.q w.r)
      go true = refl
      go false = refl

  four-closes : closes true (pair_off 2 z (w ∷ x ∷ y ∷ v ∷ [])) ≡ four_test w x y v z
  unfolding four-pairs four_test
  four-closes = ap (closes true) pairs-of-four ∙ go (joins w x z) (joins w y z) (joins w v z)
    where
      go : (a b c : Bool) →
          closes true (cases a (brothers w x ∷ one y v z) (cases b (brothers w y ∷ one x v z) (cases c (brothers w v ∷ one x y z) []))) ≡
          cases a (closing w x y v z) (cases b (closing w y x v z) (cases c (closing w v x y z) false))
      go true b c = one-closes x y v
      go false true c = one-closes y x v
      go false false true = one-closes v x y
      go false false false = refl

  four-span : four_test w x y v z ≡ true → span_of (pair_off 2 z (w ∷ x ∷ y ∷ v ∷ [])) ≡ edge w.r (brother_of w x y v z).q
  unfolding four-pairs four_test brother_of
  four-span e = ap span_of pairs-of-four ∙ go (joins w x z) (joins w y z) (joins w v z) e
    where
      go : (a b c : Bool) → cases a (closing w x y v z) (cases b (closing w y x v z) (cases c (closing w v x y z) false)) ≡ true →
          span_of (cases a (brothers w x ∷ one y v z) (cases b (brothers w y ∷ one x v z) (cases c (brothers w v ∷ one x y z) []))) ≡
          edge w.r (cases a x (cases b y v)).q
      go true b c e = refl
      go false true c e = refl
      go false false true e = refl
      go false false false e = clash (sym e)

ends-below : (x y n lo hi : ℕ) → x < n → y < n → lo ≡ min x y → hi ≡ max x y → (lo < n) × (hi < n)
ends-below x y n lo hi a b c d = (omega arith, omega arith)

brother-below : (w x y v : Tri) (z n : ℕ) → x.q < n → y.q < n → v.q < n → (brother_of w x y v z).q < n
unfolding brother_of
brother-below w x y v z n a b c = go (joins w x z) (joins w y z)
  where
    go : (i j : Bool) → (cases i x (cases j y v)).q < n
    go true j = a
    go false true = b
    go false false = c

-- ---- by number

-- where G1 says yes, no row holds z otherwise
module _ (rows : List ℕ) (n t z : ℕ) (f : Fair rows n t) (s : List ℕ) (nc : ℕ) (a : Around s nc rows t z) (g : G1 (rows_alone rows t) z ≡ true) where
  rows_are : rows_of (rows_alone rows t) z ≡ rows_round rows t z
  rows_are = round-rows rows n t z f (older-none rows n t z f g)

  round-rows-once : RowsOnce (rows_round rows t z)
  round-rows-once = only-rows (newest z) (items (row_at rows) 0 t) f.once

  some-shape : eqb (length (rows_round rows t z)) 2 || eqb (length (rows_round rows t z)) 4 ≡ true
  some-shape = rw rows_are at (and_right (all (λ w. eqb w.p z) (rows_of (rows_alone rows t) z)) (eqb (length (rows_of (rows_alone rows t) z)) 2 || eqb (length (rows_of (rows_alone rows t) z)) 4) g)

  -- the code's answer: two rows or four
  answer : Numbers → Bool
  answer k = cases (eqb k.third 0) (joins (row_in rows k.first) (row_in rows k.second) z)
      (four_test (row_in rows k.first) (row_in rows k.second) (row_in rows k.third) (row_in rows k.fourth) z)

  over : (k : ℕ) → eqb (suc k) 0 ≡ false
  over k = ne_eqb (suc k) 0 (omega arith)

  shaped : {k : Numbers} → Shape rows t z k → G2 (rows_alone rows t) z ≡ answer k
  unfolding answer pairs row_in one
  shaped (two i j hi hj e) = rw (rows_are, e, pairs-of-two (row_at rows i) (row_at rows j) z) (last (row_at rows i) (row_at rows j))
    where
      last : (w v : Tri) → closes false (one w v z) ≡ joins w v z
      last w v = go (joins w v z)
        where
          go : (b : Bool) → closes false (cases b (brothers w v ∷ []) []) ≡ b
          go true = refl
          go false = refl
  shaped (four i j k l hi hj hk hl e) =
      rw (rows_are, e, over k) (four-closes (row_at rows i) (row_at rows j) (row_at rows k) (row_at rows l) z (subst RowsOnce e round-rows-once))
  shaped {k} (other x y e) = clash (sym some-shape ∙ sym (shape-test rows t z (other x y e)) ∙ e)

  -- G2, as the code asks it
  pub G2-two : (k : Numbers) (r : Bool) → k ≡ round_by s nc z → k.third ≡ 0 → r ≡ two_in rows k z → r ≡ G2 (rows_alone rows t) z
  unfolding answer two_in
  G2-two k r e h u = u ∙ sym (shaped (shape_is rows t z s nc a) ∙ rw (← e, h))

  pub G2-four : (k : Numbers) (r : Bool) → k ≡ round_by s nc z → (k.third ≡ 0 → ⊥) → r ≡ four_in rows k z → r ≡ G2 (rows_alone rows t) z
  unfolding answer four_in
  G2-four k r e h u = u ∙ sym (shaped (shape_is rows t z s nc a) ∙ rw (← e, ne_eqb k.third 0 h))

  -- the pair
  spanned : {k : Numbers} → Shape rows t z k → G2 (rows_alone rows t) z ≡ true →
      span (rows_alone rows t) z ≡ edge (row_in rows k.first).r (brother_of (row_in rows k.first) (row_in rows k.second) (row_in rows k.third) (row_in rows k.fourth) z).q
  unfolding answer span pairs row_in one brother_of
  spanned (two i j hi hj e) q =
      let w = row_at rows i in
      let v = row_at rows j in
      let y : joins w v z ≡ true = sym (shaped (two i j hi hj e)) ∙ q in
      rw (rows_are, e, pairs-of-two w v z, y)
  spanned (four i j k l hi hj hk hl e) q =
      let y : four_test (row_at rows i) (row_at rows j) (row_at rows k) (row_at rows l) z ≡ true = (rw (over k) at (sym (shaped (four i j k l hi hj hk hl e)))) ∙ q in
      rw (rows_are, e) (four-span (row_at rows i) (row_at rows j) (row_at rows k) (row_at rows l) z (subst RowsOnce e round-rows-once) y)
  spanned {k} (other x y e) q = clash (sym some-shape ∙ sym (shape-test rows t z (other x y e)) ∙ e)

  -- its ends are nodes
  span-in : {k : Numbers} → Shape rows t z k → G2 (rows_alone rows t) z ≡ true → ((span (rows_alone rows t) z).lo < n) × ((span (rows_alone rows t) z).hi < n)
  unfolding row_in
  span-in (two i j hi hj e) q =
      let d : span (rows_alone rows t) z ≡ edge (row_at rows i).r (brother_of (row_at rows i) (row_at rows j) (row_in rows 0) (row_in rows 0) z).q = spanned (two i j hi hj e) q in
      let w = f.named i hi in
      ends-below (row_at rows i).r _ n _ _ w.r-below
      (brother-below (row_at rows i) (row_at rows j) (row_in rows 0) (row_in rows 0) z n (f.named j hj).q-below (omega arith) (omega arith))
      (ap (λ (x : Edge). x.lo) d) (ap (λ (x : Edge). x.hi) d)
  span-in (four i j k l hi hj hk hl e) q =
      let d : span (rows_alone rows t) z ≡ edge (row_at rows i).r (brother_of (row_at rows i) (row_at rows j) (row_at rows k) (row_at rows l) z).q = spanned (four i j k l hi hj hk hl e) q in
      ends-below (row_at rows i).r _ n _ _ (f.named i hi).r-below
      (brother-below (row_at rows i) (row_at rows j) (row_at rows k) (row_at rows l) z n (f.named j hj).q-below (f.named k hk).q-below (f.named l hl).q-below)
      (ap (λ (x : Edge). x.lo) d) (ap (λ (x : Edge). x.hi) d)
  span-in {k} (other x y e) q = clash (sym some-shape ∙ sym (shape-test rows t z (other x y e)) ∙ e)

  -- as the code makes it
  module _ (k : Numbers) (w u : Tri) (lo hi : ℕ) (g2 : G2 (rows_alone rows t) z ≡ true) (e : k ≡ round_by s nc z) (p : w ≡ row_in rows k.first) (q : u ≡ brother_in rows k z)
      (c : lo ≡ min w.r u.q) (d : hi ≡ max w.r u.q) where
    pub span-made : edge_of (record { lo = lo; hi = hi }) ≡ span (rows_alone rows t) z
    unfolding brother_in
    span-made = (λ i. record { lo = c i; hi = d i }) ∙ sym (spanned (shape_is rows t z s nc a) g2 ∙ rw (← e, ← q, ← p))

    pub lo-below : lo < n
    lo-below = rw (ap (λ (x : Edge). x.lo) span-made) (span-in (shape_is rows t z s nc a) g2).0

    pub hi-below : hi < n
    hi-below = rw (ap (λ (x : Edge). x.hi) span-made) (span-in (shape_is rows t z s nc a) g2).1
