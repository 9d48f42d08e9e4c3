-- A star: what a node that meets G1 to G4 is in a lawful mesh, as facts about the pairs of rows round it; and the tests tell as much.
-- Assumes nothing.
use Rattle.std.specs.Prelude.{Bool, true, false, ◌&&◌, ◌||◌, ◌↔◌, ◌≢◌, ◌≡◌, refl, ℕ, min, max, ◌+◌, ◌*◌, ◌≤◌, ◌<◌, leb, ltb, ℤ, pos, ◌+ℤ◌, ◌<ℤ◌}
use Rattle.std.proofs.Math.Bool.{not}
use mathlib.Core.List.{List, [], ◌∷◌, Memᴰ}
use Rattle.std.proofs.Common.{sym, subst, ◌∙◌, arith}
use Rattle.std.proofs.Math.Path.{subst⁻¹, ap, ap₂}
use Rattle.std.proofs.Math.Dec.{eqb}
use Rattle.std.specs.Int.Signed.{le_z}
use Rattle.std.proofs.Math.ListN.{length}
use borrow.Author.Tests.{eqb-true, eqb-false, eq-eqb, not-true, leb-true, le-leb, le-ltb, ltb-false}
use Rattle.lists.specs.Lists.{all, up_to, All, nil, cons}
use Rattle.lists.specs.ListsLaw.{clash, and_both, and_left, and_right, or_left, or_right, All-imp, All-both, All-at, All-of, all_yes, yes-all, any_none}
use Rattle.lists.specs.MembersLaw.{only_keeps, none_any, up_to-below, up_to-in}
use Rattle.lists.specs.Tally.{tally, tally-le, tally-add, tally-length, tally-only, count-tally, only-le}
use Rattle.whole.specs.Diff.{onℤ, sumℤ, negℤ-ud}
use Rattle.whole.specs.Order.{le_of_eq, le_antisymm}
use Rattle.whole.specs.Tests.{le_z-true, le-le_z}
use Rattle.meaning.specs.declared.Place.{Place}
use Rattle.meaning.specs.declared.Tri.{Tri}
use Rattle.meaning.specs.Mesh.{Mesh, Edge, Arrow, edge, arrow, same_edge, holds_node, holds_edge, at, turn, twice_area}
use Rattle.meaning.specs.Lawful.{Named, Lawful}
use Rattle.meaning.specs.Good.{Middle, Brothers, father, rows_of, pairs, span_of, span, closes, same_z, is_middle, G1, G2, G3, G4, G1-4, G5, good}
use Rattle.laws.specs.Area.{turn-mirror, bisect-area, middle-either, middle-edge}
use Rattle.laws.specs.Edges.{edge-comm, same_edge-eq, same_edge-refl, hit, hits, hit-self, hit-le}
use Rattle.laws.specs.Pairs.{RowsOnce, arrows-once, row-once, only-rows, Matched, matched-rows, matched-all, matched-off, off-half, off-length, off-matched}

-- ---- a pair of brothers

-- left (z, a, b) and right (z, c, a), rows of the mesh, where z is the exact midpoint of b and c, the pair of the node
pub record Pair (m : Mesh) (z : ℕ) (b : Brothers) : Type 0 where
  pub left-row : Memᴰ b.left m.tris
  pub right-row : Memᴰ b.right m.tris
  pub left-p : b.left.p ≡ z
  pub right-p : b.right.p ≡ z
  pub joint : b.right.r ≡ b.left.q
  pub ends : edge b.left.r b.right.q ≡ span m z
  pub middle : Middle (at m z) (at m b.left.r) (at m b.right.q)

module _ (m : Mesh) (z : ℕ) {b : Brothers} (h : Pair m z b) where
  -- the father has the brothers' twice-areas
  pub father-area : twice_area m b.left +ℤ twice_area m b.right ≡ twice_area m (father b)
  unfolding twice_area
  father-area =
      rw (h.left-p, h.right-p, h.joint) (bisect-area (at m b.left.q) (at m b.left.r) (at m b.right.q) (at m z) h.middle)

  pub father-positive : Lawful m → pos 0 <ℤ twice_area m (father b)
  father-positive law =
      let l = All-at law.positive h.left-row in
      let r = All-at law.positive h.right-row in
      let e = father-area in
      omega (arith, onℤ, sumℤ (twice_area m b.left) (twice_area m b.right))

  -- b and c are two: else the father's twice-area would be its own negative
  ends-apart : Lawful m → b.left.r ≢ b.right.q
  unfolding twice_area
  ends-apart law e =
      let A = at m b.left.q in
      let B = at m b.left.r in
      let C = at m b.right.q in
      let w : turn A B C ≡ turn A C B = ap₂ (λ x y. turn A (at m x) (at m y)) e (sym e) in
      let n = turn-mirror A B C in
      let l = father-positive law in
      omega (arith, onℤ, negℤ-ud (turn A B C))

  pub father-named : Lawful m → Named (length m.nodes) (father b)
  father-named law =
      let l = All-at law.named h.left-row in
      let r = All-at law.named h.right-row in
      record {
        p-below = l.q-below;
        q-below = l.r-below;
        r-below = r.q-below;
        p≢q = l.q≢r;
        q≢r = ends-apart law;
        r≢p = λ w. r.q≢r (w ∙ sym h.joint);
      }

-- ---- a node that meets G1 to G4

pub record Star (m : Mesh) (z : ℕ) : Type 0 where
  -- G1: it is the newest vertex of every row that holds it
  pub newest : All (λ t. t.p ≡ z) (rows_of m z)
  -- G2: the pairs are the rows round it, each once
  pub rows : (f : Tri → ℕ) → tally (λ b. f b.left + f b.right) (pairs m z) ≡ tally f (rows_of m z)
  -- G2, G3: each of the pairs has this shape
  pub pair : All (Pair m z) (pairs m z)
  -- G4: no row has the edge b–c
  pub no_edge : All (λ t. holds_edge (span m z) t ≡ false) m.tris

-- of pairs that are the rows round z, one at most goes from b to c: b→z would occur twice
one_way : (m : Mesh) (z : ℕ) → Lawful m → (bs : List Brothers) → ((f : Tri → ℕ) → tally (λ b. f b.left + f b.right) bs ≡ tally f (rows_of m z)) → All (λ b. b.left.p ≡ z) bs →
    (e : Arrow) → tally (λ b. hit e b.left.r b.right.q) bs ≤ 1
one_way m z law bs round left-p e =
    let d = arrow e.from z in
    let a = tally-le (λ b. hit e b.left.r b.right.q) (λ b. hits d b.left + hits d b.right) (All-imp one left-p) in
    let b = round (hits d) in
    let c = only-le (hits d) (holds_node z) m.tris in
    let f = arrows-once m law d in
    omega arith
  where
    one : (b : Brothers) → b.left.p ≡ z → hit e b.left.r b.right.q ≤ hits (arrow e.from z) b.left + hits (arrow e.from z) b.right
    one b h = let k = hit-le e (arrow e.from z) b.left.r b.right.q b.left.r b.left.p (λ x y. (x, sym h)) in omega arith

pub opposed : (m : Mesh) (z : ℕ) → Lawful m → Star m z → (e : Arrow) → tally (λ b. hit e b.left.r b.right.q) (pairs m z) ≤ 1
opposed m z law s e = one_way m z law (pairs m z) s.rows (All-imp (λ b h. h.left-p) s.pair) e

pub round-once : (m : Mesh) (z : ℕ) → Lawful m → RowsOnce (rows_of m z)
round-once m z law = only-rows (holds_node z) m.tris (row-once m law)

-- rows round z that are paired off without rest, all pairs with the one edge b–c, are a star: each direction of b–c occurs once, so there
-- are two pairs at most, and these are G2's
module _ (m : Mesh) (z : ℕ) (law : Lawful m) (newest : All (λ t. t.p ≡ z) (rows_of m z)) {bs : List Brothers} (matched : Matched (rows_of m z) bs)
    (some_pair : 1 ≤ length bs) (E : Edge) (ends : All (λ x. edge x.left.r x.right.q ≡ E) bs) where
  round : (f : Tri → ℕ) → tally (λ b. f b.left + f b.right) bs ≡ tally f (rows_of m z)
  round = matched-rows (round-once m z law) matched

  parts : All (λ x. (Memᴰ x.left m.tris × (x.left.p ≡ z)) × (Memᴰ x.right m.tris × (x.right.p ≡ z)) × (x.right.r ≡ x.left.q)) bs
  parts = matched-all (All-both (only_keeps (holds_node z) (All-of m.tris (λ u i. i))) newest) matched

  two-at-most : length bs ≤ 2
  two-at-most =
      let d = arrow E.lo E.hi in
      let e = arrow E.hi E.lo in
      let o = one_way m z law bs round (All-imp (λ x h. h.0.1) parts) in
      let p = o d in
      let q = o e in
      let s = tally-add (λ x. hit d x.left.r x.right.q) (λ x. hit e x.left.r x.right.q) bs in
      let t = tally-le (λ x. 1) (λ x. hit d x.left.r x.right.q + hit e x.left.r x.right.q) (All-imp one ends) in
      let l = tally-length bs in
      omega arith
    where
      one : (x : Brothers) → edge x.left.r x.right.q ≡ E → 1 ≤ hit (arrow E.lo E.hi) x.left.r x.right.q + hit (arrow E.hi E.lo) x.left.r x.right.q
      one x w = go (ap (λ d. d.lo) w) (ap (λ d. d.hi) w) (eqb x.left.r E.lo) refl
        where
          is : (a b : ℕ) → x.left.r ≡ a → x.right.q ≡ b → hit (arrow a b) x.left.r x.right.q ≡ 1
          is a b p q = ap₂ (hit (arrow a b)) p q ∙ hit-self a b

          go : min x.left.r x.right.q ≡ E.lo → max x.left.r x.right.q ≡ E.hi → (t : Bool) → eqb x.left.r E.lo ≡ t →
              1 ≤ hit (arrow E.lo E.hi) x.left.r x.right.q + hit (arrow E.hi E.lo) x.left.r x.right.q
          go l h true v = let v' = eqb-true x.left.r E.lo v in let k = is E.lo E.hi v' (omega arith) in omega arith
          go l h false v =
              let v' : x.left.r ≢ E.lo = eqb-false x.left.r E.lo v in
              let k = is E.hi E.lo (omega arith) (omega arith) in
              omega arith

  pairs-are : pairs m z ≡ bs
  unfolding pairs
  pairs-are = matched-off z 2 newest (λ e. (let a = only-le (hits e) (holds_node z) m.tris in let b = arrows-once m law e in omega arith)) matched two-at-most

  pub span-is : span m z ≡ E
  unfolding span
  span-is = ap span_of pairs-are ∙ first_ends bs some_pair ends
    where
      first_ends : (xs : List Brothers) → 1 ≤ length xs → All (λ x. edge x.left.r x.right.q ≡ E) xs → span_of xs ≡ E
      first_ends [] l h = absurd (omega arith)
      first_ends (x ∷ xs) l (cons h hs) = h

  pub star-from : Middle (at m z) (at m E.lo) (at m E.hi) → All (λ t. holds_edge E t ≡ false) m.tris → Star m z
  star-from middle no_edge = record {
    newest = newest;
    rows = λ f. ap (tally (λ b. f b.left + f b.right)) pairs-are ∙ round f;
    pair = subst⁻¹ (All (Pair m z)) pairs-are (All-imp one (All-both parts ends));
    no_edge = subst⁻¹ (λ e. All (λ t. holds_edge e t ≡ false) m.tris) span-is no_edge;
  }
    where
      one : (x : Brothers) →
          ((Memᴰ x.left m.tris × (x.left.p ≡ z)) × (Memᴰ x.right m.tris × (x.right.p ≡ z)) × (x.right.r ≡ x.left.q)) ×
          (edge x.left.r x.right.q ≡ E) → Pair m z x
      one x h = record {
        left-row = h.0.0.0;
        right-row = h.0.1.0;
        left-p = h.0.0.1;
        right-p = h.0.1.1;
        joint = h.0.2;
        ends = h.1 ∙ sym span-is;
        middle = middle-either m (at m z) x.left.r x.right.q (subst⁻¹ (λ e. Middle (at m z) (at m e.lo) (at m e.hi)) h.1 middle);
      }

-- ---- the tests tell the facts

pub same_z-eq : (a b : ℤ) → same_z a b ≡ true → a ≡ b
same_z-eq a b t = le_antisymm (le_z-true a b (and_left (le_z a b) (le_z b a) t)) (le_z-true b a (and_right (le_z a b) (le_z b a) t))

pub eq-same_z : (a b : ℤ) → a ≡ b → same_z a b ≡ true
eq-same_z a b e = and_both (le-le_z a b (le_of_eq e)) (le-le_z b a (le_of_eq (sym e)))

is-middle : (M A B : Place) → is_middle M A B ≡ true → Middle M A B
is-middle M A B t =
    let b = same_z (M.x +ℤ M.x) (A.x +ℤ B.x) in
    let c = same_z (M.y +ℤ M.y) (A.y +ℤ B.y) in
    record { x-middle = same_z-eq _ _ (and_left b c t); y-middle = same_z-eq _ _ (and_right b c t) }

middle-yes : (M A B : Place) → Middle M A B → is_middle M A B ≡ true
middle-yes M A B h = and_both (eq-same_z _ _ h.x-middle) (eq-same_z _ _ h.y-middle)

-- 2 or 4 rows, and for 4 a second pair: two rows a pair
two-each : (n : ℕ) (bs : List Brothers) → eqb n 2 || eqb n 4 ≡ true → closes (eqb n 4) bs ≡ true → 2 * length bs ≤ n → length bs ≤ 2 → 2 * length bs ≡ n
two-each n bs t c h l = go (eqb n 2) refl (eqb n 4) refl bs t c h l
  where
    go : (x : Bool) → eqb n 2 ≡ x → (y : Bool) → eqb n 4 ≡ y → (bs : List Brothers) → x || y ≡ true → closes y bs ≡ true → 2 * length bs ≤ n → length bs ≤ 2 → 2 * length bs ≡ n
    go true e y f [] t c h l = clash (sym c)
    go true e y f (b ∷ bs) t c h l = let w = eqb-true n 2 e in omega arith
    go false e false f bs t c h l = clash (sym t)
    go false e true f [] t c h l = clash (sym c)
    go false e true f (b ∷ []) t c h l = clash (sym c)
    go false e true f (b ∷ d ∷ bs) t c h l = let w = eqb-true n 4 f in omega arith

-- one pair, or two opposed
span-ends : (n : ℕ) (bs : List Brothers) → closes (eqb n 4) bs ≡ true → 2 * length bs ≡ n → length bs ≤ 2 → All (λ b. edge b.left.r b.right.q ≡ span_of bs) bs
span-ends n [] t e l = clash (sym t)
span-ends n (x ∷ []) t e l = cons refl nil
span-ends n (x ∷ y ∷ []) t e l =
    let t' = rw (eq-eqb n 4 (omega arith)) at t in
    let a = eqb-true y.left.r x.right.q (and_left (eqb y.left.r x.right.q) (eqb y.right.q x.left.r) t') in
    let b = eqb-true y.right.q x.left.r (and_right (eqb y.left.r x.right.q) (eqb y.right.q x.left.r) t') in
    cons refl (cons (ap₂ edge a b ∙ edge-comm x.right.q x.left.r) nil)
span-ends n (x ∷ y ∷ z ∷ zs) t e l = absurd (omega arith)

module _ (m : Mesh) (z : ℕ) (law : Lawful m) (t : G1-4 m z ≡ true) where
  g1 : G1 m z ≡ true
  unfolding G1-4
  g1 = and_left (G1 m z) (G2 m z) (and_left (G1 m z && G2 m z) (G3 m z) (and_left (G1 m z && G2 m z && G3 m z) (G4 m z) t))

  pub test-closes : G2 m z ≡ true
  unfolding G1-4
  test-closes = and_right (G1 m z) (G2 m z) (and_left (G1 m z && G2 m z) (G3 m z) (and_left (G1 m z && G2 m z && G3 m z) (G4 m z) t))

  g3 : G3 m z ≡ true
  unfolding G1-4
  g3 = and_right (G1 m z && G2 m z) (G3 m z) (and_left (G1 m z && G2 m z && G3 m z) (G4 m z) t)

  g4 : G4 m z ≡ true
  unfolding G1-4
  g4 = and_right (G1 m z && G2 m z && G3 m z) (G4 m z) t

  pub test-newest : All (λ t. t.p ≡ z) (rows_of m z)
  test-newest =
      All-imp (λ u e. eqb-true u.p z e)
      (all_yes (λ u. eqb u.p z) (rows_of m z) (and_left (all (λ u. eqb u.p z) (rows_of m z)) _ g1))

  pub test-count : 2 * length (pairs m z) ≡ length (rows_of m z)
  unfolding pairs
  test-count =
      two-each (length (rows_of m z)) (pairs m z) (and_right (all (λ u. eqb u.p z) (rows_of m z)) _ g1) test-closes
      (off-half z 2 (rows_of m z) (round-once m z law)) (off-length z 2 (rows_of m z))

  pub test-matched : Matched (rows_of m z) (pairs m z)
  unfolding pairs
  test-matched = off-matched z (length m.nodes) 2 (All-both test-newest (only_keeps (holds_node z) law.named)) (round-once m z law) test-count

  test-ends : All (λ b. edge b.left.r b.right.q ≡ span m z) (pairs m z)
  unfolding span pairs
  test-ends = span-ends (length (rows_of m z)) (pairs m z) test-closes test-count (off-length z 2 (rows_of m z))

  test-some : 1 ≤ length (pairs m z)
  test-some = go (pairs m z) test-closes
    where
      go : (bs : List Brothers) → closes (eqb (length (rows_of m z)) 4) bs ≡ true → 1 ≤ length bs
      go [] c = clash (sym c)
      go (b ∷ bs) c = omega arith

  pub test-middle : Middle (at m z) (at m (span m z).lo) (at m (span m z).hi)
  test-middle = is-middle _ _ _ g3

  pub test-free : All (λ t. holds_edge (span m z) t ≡ false) m.tris
  test-free = any_none (holds_edge (span m z)) m.tris (not-true _ g4)

  pub test-star : Star m z
  test-star = star-from m z law test-newest test-matched test-some (span m z) test-ends test-middle test-free

-- ---- the facts tell the tests

-- an edge, given as b–c and as y–x, either way round
other-way-round : (b c y x : ℕ) → edge y x ≡ edge b c → (y ≡ b → x ≡ c → ⊥) → (y ≡ c) × (x ≡ b)
other-way-round b c y x e n =
    let l : min y x ≡ min b c = ap (λ d. d.lo) e in
    let h : max y x ≡ max b c = ap (λ d. d.hi) e in
    go l h (eqb y b) refl
  where
    go : min y x ≡ min b c → max y x ≡ max b c → (t : Bool) → eqb y b ≡ t → (y ≡ c) × (x ≡ b)
    go l h true w = let w' = eqb-true y b w in let v : x ≡ c = omega arith in absurd (n w' v)
    go l h false w = let w' : y ≢ b = eqb-false y b w in (omega arith, omega arith)

closes-yes : (n : ℕ) (bs : List Brothers) → 1 ≤ length bs → length bs ≤ 2 → n ≡ 2 * length bs → All (λ b. edge b.left.r b.right.q ≡ span_of bs) bs →
    ((e : Arrow) → tally (λ b. hit e b.left.r b.right.q) bs ≤ 1) → closes (eqb n 4) bs ≡ true
closes-yes n [] l h k e o = absurd (omega arith)
closes-yes n (x ∷ []) l h k e o = let w : n ≡ 2 = omega arith in rw w
closes-yes n (x ∷ y ∷ []) l h k (cons e (cons f es)) o =
    let v : n ≡ 4 = omega arith in
    let w = other-way-round x.left.r x.right.q y.left.r y.right.q f both in
    rw v (and_both (eq-eqb y.left.r x.right.q w.0) (eq-eqb y.right.q x.left.r w.1))
  where
    both : y.left.r ≡ x.left.r → y.right.q ≡ x.right.q → ⊥
    both p q =
        let d = arrow x.left.r x.right.q in
        let a = o d in
        let b = hit-self x.left.r x.right.q in
        let c : hit d y.left.r y.right.q ≡ hit d x.left.r x.right.q = ap₂ (hit d) p q in
        omega arith
closes-yes n (x ∷ y ∷ z ∷ zs) l h k e o = absurd (omega arith)

two-or-four : (k n : ℕ) → 1 ≤ k → k ≤ 2 → n ≡ 2 * k → eqb n 2 || eqb n 4 ≡ true
two-or-four k n l h e = go (eqb k 1) refl
  where
    go : (b : Bool) → eqb k 1 ≡ b → eqb n 2 || eqb n 4 ≡ true
    go true w = let w' = eqb-true k 1 w in or_left (eqb n 4) (eq-eqb n 2 (omega arith))
    go false w = let w' : k ≢ 1 = eqb-false k 1 w in or_right (eqb n 2) (eq-eqb n 4 (omega arith))

tally-two : (bs : List Brothers) → tally (λ b. 1 + 1) bs ≡ 2 * length bs
tally-two [] = omega arith
tally-two (b ∷ bs) = let h = tally-two bs in omega arith

module _ (m : Mesh) (z : ℕ) (law : Lawful m) (below : z < length m.nodes) where
  -- a node is in some row
  rows-some : 1 ≤ length (rows_of m z)
  rows-some =
      let a = law.used z below in
      let b = count-tally (holds_node z) m.tris in
      let c = tally-only (λ t. 1) (holds_node z) m.tris in
      let d = tally-length (rows_of m z) in
      omega arith

  module _ (s : Star m z) where
    rows-in-pairs : length (rows_of m z) ≡ 2 * length (pairs m z)
    rows-in-pairs =
        let a = s.rows (λ t. 1) in
        let b = tally-length (rows_of m z) in
        let c = tally-two (pairs m z) in
        omega arith

    some-pair-here : 1 ≤ length (pairs m z)
    some-pair-here = let a = rows-some in let b = rows-in-pairs in omega arith

    two-pairs : length (pairs m z) ≤ 2
    unfolding pairs
    two-pairs = off-length z 2 (rows_of m z)

    middle-here : Middle (at m z) (at m (span m z).lo) (at m (span m z).hi)
    unfolding span
    middle-here = go (pairs m z) some-pair-here (All-imp (λ b h. h.middle) s.pair)
      where
        go : (bs : List Brothers) → 1 ≤ length bs → All (λ b. Middle (at m z) (at m b.left.r) (at m b.right.q)) bs → Middle (at m z) (at m (span_of bs).lo) (at m (span_of bs).hi)
        go [] l h = absurd (omega arith)
        go (x ∷ xs) l (cons h hs) = middle-edge m (at m z) x.left.r x.right.q h

    star-test : G1-4 m z ≡ true
    unfolding G1-4 span
    star-test =
        and_both
        (and_both
        (and_both
        (and_both (yes-all (All-imp (λ t e. eq-eqb t.p z e) s.newest)) (two-or-four (length (pairs m z)) (length (rows_of m z)) some-pair-here two-pairs rows-in-pairs))
        (closes-yes (length (rows_of m z)) (pairs m z) some-pair-here two-pairs rows-in-pairs (All-imp (λ b h. h.ends) s.pair) (opposed m z law s)))
        (middle-yes (at m z) (at m (span m z).lo) (at m (span m z).hi) middle-here))
        (ap not (none_any (holds_edge (span m z)) s.no_edge))

  -- IN A LAWFUL MESH A NODE MEETS G1 TO G4 EXACTLY WHERE ITS ROWS ARE A STAR
  pub star-is : (G1-4 m z ≡ true) ↔ Star m z
  star-is = (test-star m z law, star-test)

-- ---- a good node

-- G5 as well: no other node numbered n0 or above has the same pair
pub record GoodStar (n0 : ℕ) (m : Mesh) (z : ℕ) : Type 0 where
  pub added : n0 ≤ z
  pub round : Star m z
  pub alone : (y : ℕ) → n0 ≤ y → y < length m.nodes → Star m y → span m z ≡ span m y → y ≡ z

-- G5, as a test of each node, and as a fact of each that meets G1 to G4
module _ (n0 : ℕ) (m : Mesh) (z : ℕ) where
  pub G5-alone : G5 n0 m z ≡ true → (y : ℕ) → n0 ≤ y → y < length m.nodes → G1-4 m y ≡ true → span m z ≡ span m y → y ≡ z
  G5-alone e y a b g d =
      go (eqb y z) refl (ltb y n0) (le-ltb y n0 a) (G1-4 m y) g (same_edge (span m z) (span m y)) (subst (λ c. same_edge (span m z) c ≡ true) d (same_edge-refl (span m z)))
      (All-at (all_yes _ (up_to (length m.nodes)) e) (up_to-in (length m.nodes) b))
    where
      go : (b : Bool) → eqb y z ≡ b → (c : Bool) → c ≡ false → (d : Bool) → d ≡ true → (f : Bool) → f ≡ true → c || b || not d || not f ≡ true → y ≡ z
      go true w c p d q f r h = eqb-true y z w
      go false w true p d q f r h = clash p
      go false w false p false q f r h = clash (sym q)
      go false w false p true q false r h = clash (sym r)
      go false w false p true q true r h = clash (sym h)

  pub alone-G5 : ((y : ℕ) → n0 ≤ y → y < length m.nodes → G1-4 m y ≡ true → span m z ≡ span m y → y ≡ z) → G5 n0 m z ≡ true
  alone-G5 alone =
      yes-all (All-imp (λ y l. other y l (ltb y n0) refl (eqb y z) refl (G1-4 m y) refl (same_edge (span m z) (span m y)) refl) (up_to-below (length m.nodes)))
    where
      other : (y : ℕ) → y < length m.nodes → (a : Bool) → ltb y n0 ≡ a → (b : Bool) → eqb y z ≡ b → (c : Bool) → G1-4 m y ≡ c → (d : Bool) → same_edge (span m z) (span m y) ≡ d → a || b || not c || not d ≡ true
      other y l true p b q c r d s = refl
      other y l false p true q c r d s = refl
      other y l false p false q false r d s = refl
      other y l false p false q true r false s = refl
      other y l false p false q true r true s = absurd (eqb-false y z q (alone y (ltb-false y n0 p) l r (same_edge-eq (span m z) (span m y) s)))

  -- the parts of the test
  pub good-added : good n0 m z ≡ true → n0 ≤ z
  unfolding good
  good-added e = leb-true n0 z (and_left (leb n0 z) (G1-4 m z) (and_left (leb n0 z && G1-4 m z) (G5 n0 m z) e))

  pub good-meets : good n0 m z ≡ true → G1-4 m z ≡ true
  unfolding good
  good-meets e = and_right (leb n0 z) (G1-4 m z) (and_left (leb n0 z && G1-4 m z) (G5 n0 m z) e)

  pub good-alone : good n0 m z ≡ true → G5 n0 m z ≡ true
  unfolding good
  good-alone e = and_right (leb n0 z && G1-4 m z) (G5 n0 m z) e

  pub good-yes : n0 ≤ z → G1-4 m z ≡ true → G5 n0 m z ≡ true → good n0 m z ≡ true
  unfolding good
  good-yes a g f = and_both (and_both (le-leb n0 z a) g) f

module _ (n0 : ℕ) (m : Mesh) (z : ℕ) (law : Lawful m) where
  pub good-star : good n0 m z ≡ true → GoodStar n0 m z
  good-star e = record {
    added = good-added n0 m z e;
    round = test-star m z law (good-meets n0 m z e);
    alone = λ y a b s d. G5-alone n0 m z (good-alone n0 m z e) y a b ((star-is m y law b).1 s) d;
  }

  pub star-good : z < length m.nodes → GoodStar n0 m z → good n0 m z ≡ true
  star-good below h =
      good-yes n0 m z h.added ((star-is m z law below).1 h.round) (alone-G5 n0 m z (λ y a b g d. h.alone y a b (test-star m y law g) d))
