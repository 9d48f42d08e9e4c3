-- The search walks the list of one end of x→y, the rarer: its slots rise, so that the first hit is the lowest row. What is kept from turn to
-- turn (`Walk`): the slots ahead are as many as were counted, the next of where the walk stands is the lowest of them, and the first of them
-- that passes is the answer. Assumes nothing.
use Rattle.std.specs.Prelude.{◌≡◌, ◌≢◌, Bool, ◌&&◌, ◌||◌, List, leb, length, get_or, Option, Some, None}
use Rattle.std.proofs.Math.Path.{refl, ap}
use Rattle.std.proofs.Common.{sym, ◌∙◌}
use Rattle.std.proofs.Math.Bool.{true, false}
use Prim.Native.Nat.{ℕ, suc, ◌+◌, ◌-◌, ◌*◌, ◌/◌, ◌≤◌, ◌<◌}
use native.Mathlib.Omega.{arith}
use Rattle.std.proofs.Math.Decide.{ℕ_discrete}
use borrow.Author.Tests.{eqb-true, eq-eqb, ltb-true, ltb-false, lt-ltb, le-ltb, le-leb, lt-leb}
use Rattle.std.proofs.Math.Dec.{eqb, ltb}
use Rattle.lists.specs.Lists.{cases}
use Rattle.lists.specs.ListsLaw.{clash, and_left, and_right}
use Rattle.lists.specs.PartsLaw.{not_so}
use Rattle.lists.specs.Loops.{code}
use Rattle.lists.specs.Search.{lowest}
use Rattle.lists.specs.ChainLaw.{From, nowhere, there, search_is}
use Rattle.meaning.specs.Mesh.{arrow, same_arrow}
use Rattle.meaning.specs.Tables.{row_at}
use Rattle.tables.specs.Arrow.{arrow_at}
use Rattle.neighbours.specs.Sized.{index_at}
use Rattle.neighbours.specs.FoundLaw.{found-is, none_found, from-before}
use Rattle.neighbours.specs.Slots.{top, many, seek, top-le, top_key, top_above, many-stays, many_more, many-here, following-higher, following-round}
use Rattle.neighbours.specs.Ready.{Ready, Indexed, named_at}

-- how many slots name node v, by the index
abbrev pub count_at : List ℕ → ℕ → List ℕ → ℕ → ℕ
count_at s nc rows v = get_or s (index_at nc (length rows) + nc + v) 0

-- of two nodes the one that fewer slots name
abbrev pub rarer : List ℕ → ℕ → List ℕ → ℕ → ℕ → ℕ
rarer s nc rows x y = cases (leb (count_at s nc rows x) (count_at s nc rows y)) x y

-- slot k is one of the first t rows', and its row holds x→y
unfoldable pub hits : List ℕ → ℕ → ℕ → ℕ → ℕ → Bool
hits rows t x y k = ltb k (3 * t) && arrow_at rows x y (k / 3)

-- what passes in the list of node v
abbrev pub passes : List ℕ → ℕ → ℕ → ℕ → (ℕ → ℕ) → ℕ → ℕ → Bool
passes rows t x y names v k = hits rows t x y k && eqb (names k) v

-- the row of a slot that was found
abbrev pub row_of : Option ℕ → Option ℕ
row_of (Some k) = Some (k / 3)
row_of None = None

-- the walk along the list of v stands at the slot of number m, whose next is the lowest of those ahead; `ahead` says how many these are, from
-- slot `behind` on
pub record Walk (s : List ℕ) (nc : ℕ) (rows : List ℕ) (t x y v m ahead : ℕ) : Type 0 where
  pub ready : Indexed s nc rows t
  pub behind : ℕ
  pub within : behind ≤ ready.held
  pub counted : ahead + many ready.names v behind ≡ many ready.names v ready.held
  pub stands : ahead ≢ 0 → (m ≢ 0) × (m ≤ ready.held)
  pub next : ahead ≢ 0 → get_or s (index_at nc (length rows) + 2 * nc + (m - 1)) 0 ≡ code (seek ready.names v behind ready.held)
  pub rest : row_of (lowest (passes rows t x y ready.names v) behind ready.held) ≡ lowest (arrow_at rows x y) 0 t

-- v is one of the two
pub data EndOf (x y : ℕ) : ℕ → Type 0 where
  from-x : EndOf x y x
  from-y : EndOf x y y

and_no : (c : Bool) → c && false ≡ false
and_no true = refl
and_no false = refl

-- ---- the whole walk

-- a row that holds x→y has a slot that names v, one of the two
record Slot (rows : List ℕ) (j v : ℕ) : Type 0 where
  at : ℕ
  in_row : at / 3 ≡ j
  names-it : named_at rows at ≡ v

slot_of : (rows : List ℕ) (x y j v : ℕ) → EndOf x y v → arrow_at rows x y j ≡ true → Slot rows j v
unfolding arrow_at row_at
slot_of rows x y j v w e =
    go (same_arrow (arrow x y) (arrow (named_at rows (3 * j)) (named_at rows (3 * j + 1)))) refl (same_arrow (arrow x y) (arrow (named_at rows (3 * j + 1)) (named_at rows (3 * j + 2)))) refl
    (same_arrow (arrow x y) (arrow (named_at rows (3 * j + 2)) (named_at rows (3 * j)))) refl e
  where
    by : (a b : ℕ) → a / 3 ≡ j → b / 3 ≡ j → same_arrow (arrow x y) (arrow (named_at rows a) (named_at rows b)) ≡ true → {v : ℕ} → EndOf x y v → Slot rows j v
    by a b c d q from-x = record { at = a; in_row = c; names-it = sym (eqb-true x (named_at rows a) (and_left (eqb x (named_at rows a)) (eqb y (named_at rows b)) q)) }
    by a b c d q from-y = record { at = b; in_row = d; names-it = sym (eqb-true y (named_at rows b) (and_right (eqb x (named_at rows a)) (eqb y (named_at rows b)) q)) }

    go : (a : Bool) → same_arrow (arrow x y) (arrow (named_at rows (3 * j)) (named_at rows (3 * j + 1))) ≡ a → (b : Bool) → same_arrow (arrow x y) (arrow (named_at rows (3 * j + 1)) (named_at rows (3 * j + 2))) ≡ b →
        (c : Bool) → same_arrow (arrow x y) (arrow (named_at rows (3 * j + 2)) (named_at rows (3 * j))) ≡ c → a || (b || (c || false)) ≡ true → Slot rows j v
    go true p b q c z i = by (3 * j) (3 * j + 1) (omega arith) (omega arith) p w
    go false p true q c z i = by (3 * j + 1) (3 * j + 2) (omega arith) (omega arith) q w
    go false p false q true z i = by (3 * j + 2) (3 * j) (omega arith) (omega arith) z w
    go false p false q false z i = clash (sym i)

module _ (s : List ℕ) (nc : ℕ) (rows : List ℕ) (t x y v : ℕ) (r : Indexed s nc rows t) (w : EndOf x y v) where
  pass-row : (k : ℕ) → passes rows t x y r.names v k ≡ true → (k / 3 < t) × (arrow_at rows x y (k / 3) ≡ true)
  unfolding hits
  pass-row k e =
      let a = and_left (ltb k (3 * t) && arrow_at rows x y (k / 3)) (eqb (r.names k) v) e in
      let b = ltb-true k (3 * t) (and_left (ltb k (3 * t)) (arrow_at rows x y (k / 3)) a) in
      (omega arith, and_right (ltb k (3 * t)) (arrow_at rows x y (k / 3)) a)

  pass-slot : (j : ℕ) → j < t → arrow_at rows x y j ≡ true → (z : Slot rows j v) → passes rows t x y r.names v z.at ≡ true
  unfolding hits
  pass-slot j h a z =
      let i = z.in_row in
      let u : z.at < 3 * t = omega arith in
      let c : eqb (r.names z.at) v ≡ true = eq-eqb (r.names z.at) v (r.same z.at u ∙ z.names-it) in
      let d : arrow_at rows x y (z.at / 3) ≡ true = rw i a in
      rw (lt-ltb z.at (3 * t) u, d, c)

  walk-whole : row_of (lowest (passes rows t x y r.names v) 0 r.held) ≡ lowest (arrow_at rows x y) 0 t
  walk-whole = sym (found-is (arrow_at rows x y) 0 t (omega arith) (go (search_is (passes rows t x y r.names v) 0 r.held (omega arith))))
    where
      slot-in : (j : ℕ) → j < t → arrow_at rows x y j ≡ true → (z : Slot rows j v) → z.at < r.held
      slot-in j h a z = let i = z.in_row in let e = r.enough in omega arith

      go : {a : Option ℕ} → From (passes rows t x y r.names v) 0 r.held a → From (arrow_at rows x y) 0 t (row_of a)
      go (nowhere n) = nowhere (λ j l h. not_so (arrow_at rows x y j) (λ q. let z = slot_of rows x y j v w q in clash (sym (pass-slot j h q z) ∙ n z.at (omega arith) (slot-in j h q z))))
      go (there k l h here n) =
          let p = pass-row k here in
          there (k / 3) (omega arith) p.0 p.1
          (λ j a b. not_so (arrow_at rows x y j) (λ q. let z = slot_of rows x y j v w q in let i = z.in_row in clash (sym (pass-slot j (omega arith) q z) ∙ n z.at (omega arith) (omega arith))))

-- ---- which end

module _ (s : List ℕ) (nc : ℕ) (rows : List ℕ) (x y : ℕ) where
  pub rarer-x : (o : ℕ) → o ≡ index_at nc (length rows) → get_or s (o + nc + x) 0 ≤ get_or s (o + nc + y) 0 → x ≡ rarer s nc rows x y
  rarer-x o e h = rw (le-leb (count_at s nc rows x) (count_at s nc rows y) (rw e at h))

  pub rarer-y : (o : ℕ) → o ≡ index_at nc (length rows) → get_or s (o + nc + y) 0 < get_or s (o + nc + x) 0 → y ≡ rarer s nc rows x y
  rarer-y o e h = rw (lt-leb (count_at s nc rows x) (count_at s nc rows y) (rw e at h))

  pub rarer-end : (v : ℕ) → v ≡ rarer s nc rows x y → EndOf x y v
  rarer-end v e = rw e (go (leb (count_at s nc rows x) (count_at s nc rows y)))
    where
      go : (c : Bool) → EndOf x y (cases c x y)
      go true = from-x
      go false = from-y

  pub rarer-below : (v : ℕ) → v ≡ rarer s nc rows x y → x < nc → y < nc → v < nc
  rarer-below v e a b = go (rarer-end v e)
    where
      go : {v : ℕ} → EndOf x y v → v < nc
      go from-x = a
      go from-y = b

-- ---- what comes next, in the form of needs

module _ (s : List ℕ) (z m a n : ℕ) (e : a ≡ m - 1) (f : n ≡ get_or s (z + a) 0) where
  pub after-some : (get_or s (z + (m - 1)) 0 ≡ 0 → ⊥) → n ≡ 0 → ⊥
  after-some h q = h (rw (← e) (sym f ∙ q))

  pub after_is : (r : ℕ) → r ≡ n - 1 → r ≡ get_or s (z + (m - 1)) 0 - 1
  after_is r q = rw (← e, ← f) q

-- ---- the turns

-- no row of the index names a node out of range
module _ (s : List ℕ) (nc : ℕ) (rows : List ℕ) (t x y : ℕ) (r : Ready s nc rows t) where
  outside : (v : ℕ) → EndOf x y v → nc ≤ v → None ≡ lowest (arrow_at rows x y) 0 t
  unfolding Ready
  outside v w h = go (search_is (arrow_at rows x y) 0 t (omega arith))
    where
      go : {g : Option ℕ} → From (arrow_at rows x y) 0 t g → None ≡ g
      go (nowhere n) = refl
      go (there j a b here n) =
          let z = slot_of rows x y j v w here in
          let i = z.in_row in
          let e = r.enough in
          let c = r.same z.at (omega arith) ∙ z.names-it in
          let d = r.holds.in-range z.at (omega arith) in
          absurd (omega arith)

  pub outside-x : nc ≤ x → None ≡ lowest (arrow_at rows x y) 0 t
  outside-x = outside x from-x

  pub outside-y : nc ≤ y → None ≡ lowest (arrow_at rows x y) 0 t
  outside-y = outside y from-y

pub walk_start : (s : List ℕ) (nc : ℕ) (rows : List ℕ) (t x y v o m ahead : ℕ) → Ready s nc rows t → EndOf x y v → v < nc → o ≡ index_at nc (length rows) → m ≡ get_or s (o + v) 0 →
    ahead ≡ get_or s (o + nc + v) 0 → Walk s nc rows t x y v m ahead
unfolding Ready many
walk_start s nc rows t x y v o m ahead r w u e g h =
    record {
      ready = r;
      behind = 0;
      within = omega arith;
      counted = omega (arith, count-is);
      stands = λ z. (not_none z, rw top-is (top-le r.names v r.held));
      next = λ z. at_first (m - 1) (let b = not_none z in omega arith);
      rest = walk-whole s nc rows t x y v r w;
    }
  where
    top-is : m ≡ top r.names v r.held
    top-is = (rw e at g) ∙ r.holds.listed.tops v u

    count-is : ahead ≡ many r.names v r.held
    count-is = (rw e at h) ∙ r.holds.listed.counts v u

    not_none : ahead ≢ 0 → m ≢ 0
    not_none z q = z (count-is ∙ many-stays r.names v 0 r.held (omega arith) (λ j a b. top_above r.names v r.held j (let c = top-is in omega arith) b))

    at_first : (k : ℕ) → m ≡ suc k → get_or s (index_at nc (length rows) + 2 * nc + k) 0 ≡ code (seek r.names v 0 r.held)
    at_first k q =
        let l = top-le r.names v r.held in
        let c = top-is in
        let n : r.names k ≡ v = top_key r.names v r.held k (sym top-is ∙ q) in
        r.holds.listed.nexts k (omega arith)
        ∙ following-round r.names k r.held (rw n (none_found (λ j. eqb (r.names j) v) (k + 1) r.held (omega arith) (λ j a b. top_above r.names v r.held j (omega arith) b)))
        ∙ rw n

-- slot k is the lowest from `behind` on with the key v
record Meets (key : ℕ → ℕ) (v behind held k : ℕ) : Type 0 where
  from : behind ≤ k
  below : k < held
  has_key : eqb (key k) v ≡ true
  none-lower : (j : ℕ) → behind ≤ j → j < k → eqb (key j) v ≡ false

module _ (s : List ℕ) (nc : ℕ) (rows : List ℕ) (t x y v m ahead : ℕ) (w : Walk s nc rows t x y v m ahead) where
  pub walk_rows : 3 * t ≤ length rows
  walk_rows = let a = w.ready.holds.in_table in let b = w.ready.enough in omega arith

  pub walk_end : ahead ≡ 0 → None ≡ lowest (arrow_at rows x y) 0 t
  walk_end e = ap row_of (sym (none_found (passes rows t x y w.ready.names v) w.behind w.ready.held w.within none)) ∙ w.rest
    where
      none : (j : ℕ) → w.behind ≤ j → j < w.ready.held → passes rows t x y w.ready.names v j ≡ false
      none j a b = rw (not_so (eqb (w.ready.names j) v) (λ q. let c = many_more w.ready.names v w.behind j w.ready.held a b q in let d = w.counted in absurd (omega arith))) (and_no (hits rows t x y j))

  module _ (u : ahead ≡ 0 → ⊥) where
    -- where it stands
    pub walk-some : m ≡ 0 → ⊥
    walk-some = (w.stands u).0

    module _ (o : ℕ) (z : o ≡ index_at nc (length rows)) where
      pub walk-room : o + 2 * nc + (m - 1) < length s
      walk-room = let b = w.stands u in let c = w.ready.holds.in_table in let d = w.ready.holds.sizes.scratch in omega arith

      -- the next slot, the lowest of those ahead: one is there, since they are counted
      meets : (k : ℕ) → k ≡ get_or s (o + 2 * nc + (m - 1)) 0 - 1 → (get_or s (o + 2 * nc + (m - 1)) 0 ≢ 0) × Meets w.ready.names v w.behind w.ready.held k
      meets k h = go (search_is (λ j. eqb (w.ready.names j) v) w.behind w.ready.held w.within) refl
        where
          go : {g : Option ℕ} → From (λ j. eqb (w.ready.names j) v) w.behind w.ready.held g → seek w.ready.names v w.behind w.ready.held ≡ g →
              (get_or s (o + 2 * nc + (m - 1)) 0 ≢ 0) × Meets w.ready.names v w.behind w.ready.held k
          go (nowhere n) r = let c = many-stays w.ready.names v w.behind w.ready.held w.within n in let d = w.counted in absurd (u (omega arith))
          go (there j b c y n) r =
              let d : get_or s (o + 2 * nc + (m - 1)) 0 ≡ code (Some j) = rw z (w.next u ∙ ap code r) in
              let i : k ≡ j = omega arith in
              (omega arith, rw i (record { from = b; below = c; has_key = y; none-lower = n }))

      pub walk-met : get_or s (o + 2 * nc + (m - 1)) 0 ≡ 0 → ⊥
      walk-met = (meets (get_or s (o + 2 * nc + (m - 1)) 0 - 1) refl).0

      module _ (k : ℕ) (h : k ≡ get_or s (o + 2 * nc + (m - 1)) 0 - 1) where
        met : Meets w.ready.names v w.behind w.ready.held k
        met = (meets k h).1

        -- past the limit, as are all ahead
        pub met-past : 3 * t ≤ k → None ≡ lowest (arrow_at rows x y) 0 t
        unfolding hits
        met-past l = ap row_of (sym (none_found (passes rows t x y w.ready.names v) w.behind w.ready.held w.within (λ j b c. none j b (ltb j k) refl))) ∙ w.rest
          where
            none : (j : ℕ) → w.behind ≤ j → (d : Bool) → ltb j k ≡ d → passes rows t x y w.ready.names v j ≡ false
            none j b true i = rw (met.none-lower j b (ltb-true j k i)) (and_no (hits rows t x y j))
            none j b false i = let c = ltb-false j k i in rw (le-ltb j (3 * t) (omega arith))

        module _ (b : Bool) (l : k < 3 * t) (g : b ≡ arrow_at rows x y (k / 3)) where
          pub met-hit : b ≡ true → Some (k / 3) ≡ lowest (arrow_at rows x y) 0 t
          unfolding hits
          met-hit c =
              let n : ℕ → ℕ = w.ready.names in
              let p : passes rows t x y n v k ≡ true = rw (lt-ltb k (3 * t) l, ← g, c, met.has_key) in
              ap row_of (sym (found-is (passes rows t x y n v) w.behind w.ready.held w.within
              (there k met.from met.below p (λ j i d. rw (met.none-lower j i d) (and_no (hits rows t x y j)))))) ∙ w.rest

          -- what does not hit at k does not pass up to it
          misses-to : b ≡ false → (j : ℕ) → w.behind ≤ j → j < suc k → passes rows t x y w.ready.names v j ≡ false
          unfolding hits
          misses-to c j d e = go (ℕ_discrete j k)
            where
              go : Dec (j ≡ k) → passes rows t x y w.ready.names v j ≡ false
              go (yes i) = rw (i, lt-ltb k (3 * t) l, ← g, c)
              go (no i) = rw (met.none-lower j d (omega arith)) (and_no (hits rows t x y j))

          pub met-on : (m' ahead' : ℕ) → b ≡ false → m' ≡ k + 1 → ahead' ≡ ahead - 1 → Walk s nc rows t x y v m' ahead'
          unfolding hits
          met-on m' ahead' c r f =
              let i = met.below in
              record {
                ready = w.ready;
                behind = suc k;
                within = i;
                counted = counted-on;
                stands = λ d. (omega arith, omega arith);
                next = λ d. next-on d (search_is (λ j. eqb (w.ready.names j) v) (k + 1) w.ready.held (omega arith)) refl;
                rest = ap row_of (sym (found-is (passes rows t x y w.ready.names v) w.behind w.ready.held w.within (from-before (passes rows t x y w.ready.names v) w.behind (suc k) w.ready.held (let d = met.from in omega arith) (misses-to c) (search_is (passes rows t x y w.ready.names v) (suc k) w.ready.held i)))) ∙ w.rest;
              }
            where
              counted-on : ahead' + many w.ready.names v (suc k) ≡ many w.ready.names v w.ready.held
              counted-on =
                  let j = many-here w.ready.names v k met.has_key in
                  let d = many-stays w.ready.names v w.behind k met.from met.none-lower in
                  let i = w.counted in
                  omega arith

              next-on : ahead' ≢ 0 → {g : Option ℕ} → From (λ j. eqb (w.ready.names j) v) (k + 1) w.ready.held g → seek w.ready.names v (k + 1) w.ready.held ≡ g →
                  get_or s (index_at nc (length rows) + 2 * nc + (m' - 1)) 0 ≡ code (seek w.ready.names v (suc k) w.ready.held)
              next-on d (nowhere n) r =
                  let i = counted-on in
                  let j = met.below in
                  let o = many-stays w.ready.names v (suc k) w.ready.held j (λ l b c. n l (omega arith) c) in
                  absurd (d (omega arith))
              next-on d (there j l i y n) q =
                  let v-is : w.ready.names k ≡ v = eqb-true (w.ready.names k) v met.has_key in
                  let one : suc k ≡ k + 1 = omega arith in
                  let same : m' - 1 ≡ k = omega arith in
                  rw (same, one, q) (w.ready.holds.listed.nexts k met.below ∙ following-higher w.ready.names k w.ready.held j (rw v-is q))
