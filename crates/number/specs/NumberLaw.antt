-- The sweep of number, row by row upward: how the notes come to say which edges of a row are in a set and which of these the scan meets
-- first in it. At first each edge of the set has its bit in one of its rows; an edge is in the set where one of its two rows says so.
-- Assumes nothing.
use Rattle.std.specs.Prelude.{◌≡◌, ◌⊎◌, Bool, ◌&&◌, ℕ, ◌+◌, ◌*◌, ◌≤◌, ◌<◌, eqb, ltb, get_or, set, Option, Some, None}
use Rattle.std.proofs.Math.Path.{refl, ap}
use Rattle.std.proofs.Common.{sym, ◌∙◌, subst, inl, inr, ⊎_elim, lt-ltb, le-ltb, get_or-set_same, get_or-set_other}
use Rattle.std.proofs.Math.Logic.{⊎_map}
use Rattle.std.proofs.Math.Bool.{true, false, not}
use mathlib.Core.List.{List, [], Memᴰ}
use native.Mathlib.Omega.{arith}
use Rattle.std.proofs.Math.Decide.{ℕ_discrete, dec_lt}
use Rattle.std.proofs.Math.ListN.{length, length-set}
use Rattle.lists.specs.Lists.{any, once, cases}
use Rattle.lists.specs.ListsLaw.{clash}
use Rattle.lists.specs.Tally.{bit, bit-one}
use Rattle.lists.specs.Search.{lowest, items, iter}
use Rattle.lists.specs.ItemsLaw.{items-none, iter-carries}
use Rattle.lists.specs.ByNumberLaw.{lowest-cut, lowest-past, lowest-none-below}
use Rattle.lists.specs.PartsLaw.{not_so}
use Rattle.meaning.specs.Mesh.{Edge, edge, edges, base, same_edge}
use Rattle.meaning.specs.Lawful.{Named}
use Rattle.meaning.specs.Tables.{row_at}
use Rattle.laws.specs.Edges.{edge-comm}
use Rattle.tables.specs.Arrow.{arrow_at}
use Rattle.notes.specs.declared.Note.{Note}
use Rattle.notes.specs.Notes.{note, packed, unpacked, Tight, note_at, split_on}
use Rattle.notes.specs.NotesLaw.{unpacked-packed}
use Rattle.close.specs.Drawn.{on_found}
use Rattle.close.specs.EdgeLaw.{OnceAt, Side, side-m, side-u, side-v, side-at, side-edge, edge-ends, found-is, found_side}
use Rattle.number.specs.Numbered.{met, either, met_by, met_on, note_by, note_of, Numbers, numbers, number_row}
use Rattle.number.specs.NumberStep.{split-le, either-one, either-none}
use Rattle.number.specs.ScanLaw.{met_in, news_in, note_in, side_pick, on-side, met-old, met-new, length-next}

and-true : (a : Bool) → a && true ≡ a
and-true true = refl
and-true false = refl

-- 1 where the note of row j says that its arrow x→y is split
abbrev pub said_at : List ℕ → List ℕ → ℕ → ℕ → ℕ → ℕ
said_at l s j x y = split_on (row_at l j) (note_at s j) x y

-- what notes tell at first of a set of edges: bit 0 says that a row's refinement edge is in it; an edge with its bit is in it; and every
-- edge of it has its bit in one of its rows
pub record Tells (l : List ℕ) (t : ℕ) (mem : Edge → Bool) (s : List ℕ) : Type 0 where
  pub base-told : (j : ℕ) → j < t → (note_at s j).m ≡ bit (mem (base (row_at l j)))
  pub sound : (j : ℕ) → j < t → {x y : ℕ} → Side (row_at l j) x y → said_at l s j x y ≡ 1 → mem (edge x y) ≡ true
  pub told : (e : Edge) → mem e ≡ true →
      (j : ℕ) × (j < t) × (x : ℕ) × (y : ℕ) × Side (row_at l j) x y × (e ≡ edge x y) × (said_at l s j x y ≡ 1)

-- where the rows lie in a table, no directed edge occurs twice, the corners of a row differ; a set of edges that with an edge of a row
-- holds its refinement edge, and notes G that tell of it
module _ (l : List ℕ) (t n : ℕ) (only_one : OnceAt l t) (named : (i : ℕ) → i < t → Named n (row_at l i)) (mem : Edge → Bool)
    (pull : (i : ℕ) (e : Edge) → i < t → Memᴰ e (edges (row_at l i)) → mem e ≡ true → mem (base (row_at l i)) ≡ true)
    (G : List ℕ) (tells : Tells l t mem G) where
  abbrev met_below : ℕ → List Edge
  met_below i = met_in l mem i

  abbrev news : ℕ → Edge → Bool
  news i e = news_in l mem i e

  abbrev note_for : ℕ → Note
  note_for i = note_in l mem i

  -- ---- the parts of a note: each edge is judged by the row across

  -- the row across is j
  by-is : (i j x y : ℕ) → i < t → Side (row_at l i) x y → lowest (arrow_at l y x) 0 t ≡ Some j →
      met_by (bit (mem (edge x y))) j i ≡ met (bit (mem (edge x y))) (bit (news i (edge x y)))
  unfolding met_by
  by-is i j x y h s e = go (dec_lt j i) (mem (edge x y)) refl
    where
      go : Dec (j < i) → (b : Bool) → mem (edge x y) ≡ b → cases (ltb j i) (met (bit b) 0) (met (bit b) (bit b)) ≡ met (bit b) (bit (b && not (any (same_edge (edge x y)) (met_below i))))
      go (yes a) true q = let m = met-old l t n only_one named mem i j x y (omega arith) (lowest-cut (arrow_at l y x) t i j e a) q in rw (lt-ltb j i a, m)
      go (yes a) false q = rw (lt-ltb j i a)
      go (no a) b q =
          let c : i ≤ j = omega arith in
          let m = met-new l t n only_one named mem i x y h s (lowest-past (arrow_at l y x) t i j e c) in
          rw (le-ltb j i c, m, and-true b)

  -- the notes s of the rows below i say what they are to say, the others what they said at first
  pub record Halfway (i : ℕ) (s : List ℕ) : Type 0 where
    pub below-noted : (j : ℕ) → j < i → note_at s j ≡ note_for j
    pub still-first : (j : ℕ) → i ≤ j → j < t → note_at s j ≡ note_at G j

  -- a note that says what it is to say has a bit for each edge of the set
  said-is : (j : ℕ) → j < t → {x y : ℕ} (s : Side (row_at l j) x y) → split_on (row_at l j) (note_for j) x y ≡ bit (mem (edge x y))
  said-is j h s = on-side (row_at l j) (named j h) s _ _ _ ∙ go s
    where
      go : {x y : ℕ} (s : Side (row_at l j) x y) → side_pick s (note_for j).m (note_for j).u (note_for j).v ≡ bit (mem (edge x y))
      go side-m = refl
      go side-u = refl
      go side-v = refl

  no-bit : (k : ℕ) → k ≤ 1 → (k ≡ 1 → ⊥) → k ≡ 0
  no-bit k a b = omega arith

  one-true : (b : Bool) → bit b ≡ 1 → b ≡ true
  one-true true e = refl
  one-true false e = absurd (omega arith)

  module _ (s : List ℕ) (i : ℕ) (h : i < t) (H : Halfway i s) where
    -- a bit of any note: its edge is in the set
    bit-sound : (j : ℕ) → j < t → {x y : ℕ} → Side (row_at l j) x y → said_at l s j x y ≡ 1 → mem (edge x y) ≡ true
    bit-sound j g {x} {y} side e = go (dec_lt j i)
      where
        go : Dec (j < i) → mem (edge x y) ≡ true
        go (yes a) = one-true (mem (edge x y)) (sym (said-is j g side) ∙ ap (λ (c : Note). split_on (row_at l j) c x y) (sym (H.below-noted j a)) ∙ e)
        go (no a) = tells.sound j g side (ap (λ (c : Note). split_on (row_at l j) c x y) (sym (H.still-first j (omega arith) g)) ∙ e)

    -- a bit that was there at first is still there
    bit-stays : (j : ℕ) → j < t → {x y : ℕ} → Side (row_at l j) x y → said_at l G j x y ≡ 1 → said_at l s j x y ≡ 1
    bit-stays j g {x} {y} side e = go (dec_lt j i)
      where
        go : Dec (j < i) → said_at l s j x y ≡ 1
        go (yes a) = ap (λ (c : Note). split_on (row_at l j) c x y) (H.below-noted j a) ∙ said-is j g side ∙ ap bit (tells.sound j g side e)
        go (no a) = ap (λ (c : Note). split_on (row_at l j) c x y) (H.still-first j (omega arith) g) ∙ e

    -- an edge of row i and of the set has its bit in row i, or in the row across
    two-rows : {x y : ℕ} → Side (row_at l i) x y → mem (edge x y) ≡ true →
        (said_at l s i x y ≡ 1) ⊎ ((j : ℕ) × (lowest (arrow_at l y x) 0 t ≡ Some j) × (said_at l s j y x ≡ 1))
    two-rows {x} {y} side m = by (tells.told (edge x y) m)
      where
        by : (j : ℕ) × (j < t) × (a : ℕ) × (b : ℕ) × Side (row_at l j) a b × (edge x y ≡ edge a b) × (said_at l G j a b ≡ 1) →
            (said_at l s i x y ≡ 1) ⊎ ((j : ℕ) × (lowest (arrow_at l y x) 0 t ≡ Some j) × (said_at l s j y x ≡ 1))
        by (j, g, a, b, o, e, one) = ends (edge-ends x y a b e)
          where
            up : said_at l s j a b ≡ 1
            up = bit-stays j g o one

            ends : ((x ≡ a) × (y ≡ b)) ⊎ ((x ≡ b) × (y ≡ a)) →
                (said_at l s i x y ≡ 1) ⊎ ((j : ℕ) × (lowest (arrow_at l y x) 0 t ≡ Some j) × (said_at l s j y x ≡ 1))
            ends (inl (c, d)) =
                let q : i ≡ j = only_one i j x y h g (side-at l i side) (rw (c, d) (side-at l j o)) in
                inl (rw (q, c, d) up)
            ends (inr (c, d)) = inr (j, rw (c, d) (found-is l t only_one j a b g o), rw (c, d) up)

    -- so what the two rows of an edge say is whether it is in the set
    either_is : {x y : ℕ} → Side (row_at l i) x y → (j : ℕ) → lowest (arrow_at l y x) 0 t ≡ Some j →
        either (said_at l s i x y) (said_at l s j y x) ≡ bit (mem (edge x y))
    either_is {x} {y} side j e = go (mem (edge x y)) refl
      where
        f : (j < t) × Side (row_at l j) y x
        f = found_side l t only_one j y x e

        go : (b : Bool) → mem (edge x y) ≡ b → either (said_at l s i x y) (said_at l s j y x) ≡ bit b
        go true m = either-one _ _ (⊎_map (λ a. a) (λ (k, q, a). same k (sym q ∙ e) a) (two-rows side m))
          where
            same : (k : ℕ) → Some k ≡ Some j → said_at l s k y x ≡ 1 → said_at l s j y x ≡ 1
            same k g a = let z : k ≡ j = cc in subst (λ (n : ℕ). said_at l s n y x ≡ 1) z a
        go false m =
            either-none _ _
            (no-bit _ (split-le (row_at l i) s i x y) (λ a. clash (sym (bit-sound i h side a) ∙ m)))
            (no-bit _ (split-le (row_at l j) s j y x) (λ a. clash (sym (bit-sound j f.0 f.1 a) ∙ ap mem (edge-comm y x) ∙ m)))

    -- and where there is no row across, row i says it alone
    alone-is : {x y : ℕ} → Side (row_at l i) x y → lowest (arrow_at l y x) 0 t ≡ None → said_at l s i x y ≡ bit (mem (edge x y))
    alone-is {x} {y} side e = go (mem (edge x y)) refl
      where
        go : (b : Bool) → mem (edge x y) ≡ b → said_at l s i x y ≡ bit b
        go true m = ⊎_elim (λ a. a) (λ (k, q, a). (let c : Some k ≡ None = sym q ∙ e in let z : ◌≡◌ {A = ℕ} 0 1 = cc in absurd (omega arith))) (two-rows side m)
        go false m = no-bit _ (split-le (row_at l i) s i x y) (λ a. clash (sym (bit-sound i h side a) ∙ m))

    met-is : {x y : ℕ} (side : Side (row_at l i) x y) →
        met_on l t s i (side_pick side (note_at s i).m (note_at s i).u (note_at s i).v) x y ≡ met (bit (mem (edge x y))) (bit (news i (edge x y)))
    unfolding met_on
    met-is {x} {y} side = ap (λ (k : ℕ). met_on l t s i k x y) (sym (on-side (row_at l i) (named i h) side _ _ _)) ∙ go (lowest (arrow_at l y x) 0 t) refl
      where
        go : (w : Option ℕ) → lowest (arrow_at l y x) 0 t ≡ w →
            on_found w (λ j. met_by (either (said_at l s i x y) (said_at l s j y x)) j i)
            (met (said_at l s i x y) (said_at l s i x y)) ≡ met (bit (mem (edge x y))) (bit (news i (edge x y)))
        go (Some j) e = ap (λ (b : ℕ). met_by b j i) (either_is side j e) ∙ by-is i j x y h side e
        go None e =
            let f = met-new l t n only_one named mem i x y h side (lowest-none-below (arrow_at l y x) t i e (omega arith)) in
            rw (alone-is side e, f, and-true (mem (edge x y)))

    -- ---- the note of row i

    of_is : note_of l t s i (length (once same_edge (met_below i))) ≡ note_for i
    unfolding note_of
    of_is = go (mem (base (row_at l i))) refl
      where
        first : (note_at s i).m ≡ bit (mem (base (row_at l i)))
        first = ap (λ (c : Note). c.m) (H.still-first i (omega arith) h) ∙ tells.base-told i h

        go : (b : Bool) → mem (base (row_at l i)) ≡ b →
            cases (eqb (note_at s i).m 0) (note 0 0 0 0 0 0 (length (once same_edge (met_below i))))
            (note_by (met_on l t s i (note_at s i).m (row_at l i).q (row_at l i).r) (met_on l t s i (note_at s i).u (row_at l i).p (row_at l i).q)
            (met_on l t s i (note_at s i).v (row_at l i).r (row_at l i).p) (length (once same_edge (met_below i)))) ≡ note_for i
        go true m = rw (met-is side-m, met-is side-u, met-is side-v, first, m)
        go false m =
            let n : (e : Edge) → Memᴰ e (edges (row_at l i)) → mem e ≡ false = λ e k. not_so (mem e) (λ q. clash (sym (pull i e h k q) ∙ m)) in
            rw (first, m, n (edge (row_at l i).p (row_at l i).q) (side-edge (row_at l i) side-u), n (edge (row_at l i).r (row_at l i).p) (side-edge (row_at l i) side-v))

  -- ---- all rows: each turn makes the note of one row, and leaves the others

  -- the sweep has reached row i; N is the length of scratch
  pub record Reached (N i : ℕ) (st : Numbers) : Type 0 where
    pub halfway : Halfway i st.table
    pub counted : st.count ≡ length (once same_edge (met_below i))
    pub few : st.count ≤ 3 * i
    pub long : length st.table ≡ N

  for-tight : (i : ℕ) → length (once same_edge (met_below i)) ≤ 16_777_216 → Tight (note_for i)
  for-tight i k = record {
    m-bit = bit-one (mem (base (row_at l i)));
    u-bit = bit-one (mem (edge (row_at l i).p (row_at l i).q));
    v-bit = bit-one (mem (edge (row_at l i).r (row_at l i).p));
    fm-bit = bit-one (news i (base (row_at l i)));
    fu-bit = bit-one (news i (edge (row_at l i).p (row_at l i).q));
    fv-bit = bit-one (news i (edge (row_at l i).r (row_at l i).p));
    few = k;
  }

  module _ (N : ℕ) (long : t ≤ N) (small : 3 * t ≤ 16_777_216) where
    reach : (i : ℕ) (st : Numbers) → i < t → Reached N i st → Reached N (i + 1) (number_row l t i st)
    unfolding number_row note_at
    reach i st h d = rw is (record {
      halfway = record {
        below-noted = λ j a. at j a (ℕ_discrete j i);
        still-first = λ j a c. ap unpacked (get_or-set_other st.table i j (packed (note_for i)) 0 (omega arith)) ∙ d.halfway.still-first j (omega arith) c;
      };
      counted = (let a = length-next l t n only_one named mem i h in let k = d.counted in omega arith);
      few = (let a = for-tight i few' in let k = d.few in omega arith);
      long = length-set st.table i (packed (note_for i)) ∙ d.long;
    })
      where
        few' : length (once same_edge (met_below i)) ≤ 16_777_216
        few' = let a = d.counted in let b = d.few in omega arith

        is : note_of l t st.table i st.count ≡ note_for i
        is = rw d.counted (of_is st.table i h d.halfway)

        at : (j : ℕ) → j < i + 1 → Dec (j ≡ i) → unpacked (get_or (set st.table i (packed (note_for i))) j 0) ≡ note_for j
        at j a (yes e) =
            rw (e, get_or-set_same st.table i (packed (note_for i)) 0 (let y = d.long in omega arith)) (unpacked-packed (note_for i) (for-tight i few'))
        at j a (no o) = ap unpacked (get_or-set_other st.table i j (packed (note_for i)) 0 o) ∙ d.halfway.below-noted j (omega arith)

    pub reach-all : length G ≡ N → Reached N t (iter (number_row l t) 0 t (numbers G 0))
    reach-all e =
        iter-carries (number_row l t) (λ i st. Reached N i st) t (numbers G 0) reach
        (record {
          halfway = record { below-noted = λ j a. absurd (omega arith); still-first = λ j a c. refl };
          counted = none-met;
          few = omega arith;
          long = e;
        })
      where
        none-met : 0 ≡ length (once same_edge (met_below 0))
        none-met = let z : items (row_at l) 0 0 ≡ [] = items-none (row_at l) 0 0 (omega arith) in rw z
