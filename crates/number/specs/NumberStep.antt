-- The parts of the code, in the form of their needs. Assumes nothing.
use Rattle.std.specs.Prelude.{◌≡◌, refl, ◌⊎◌, Bool, true, false, ◌&&◌, List, ℕ, ◌+◌, ◌*◌, ◌≤◌, ◌<◌, eqb, ltb, length, set, Option, Some, None}
use Rattle.std.proofs.Common.{sym, ◌∙◌, subst, inl, inr}
use Rattle.std.proofs.Math.Path.{ap}
use native.Mathlib.Omega.{arith}
use borrow.Author.Tests.{eq-eqb, ne_eqb, lt-ltb, le-ltb}
use Rattle.lists.specs.Lists.{cases}
use Rattle.lists.specs.Search.{lowest, iter}
use Rattle.lists.specs.IterLaw.{iter-keeps}
use Rattle.lists.specs.SearchLaw.{lowest-below}
use Rattle.meaning.specs.declared.Tri.{Tri}
use Rattle.meaning.specs.Tables.{row_at}
use Rattle.tables.specs.Arrow.{arrow_at}
use Rattle.neighbours.specs.Ready.{Ready, ready-sized, ready-put}
use Rattle.notes.specs.declared.Note.{Note}
use Rattle.notes.specs.Notes.{note, note_at, packed, Tight, on_arrow, split_on}
use Rattle.notes.specs.NotesLaw.{note-bits}
use Rattle.close.specs.Drawn.{on_found}
use Rattle.number.specs.Numbered.{Met, met, either, met_by, met_on, note_by, note_of, Numbers, numbers, number_row}

pub either-own : (own other : ℕ) → own ≡ 1 → 1 ≡ either own other
unfolding either
either-own own other e = rw (eq-eqb own 1 e)

pub either-other : (own other : ℕ) → (own ≡ 1 → ⊥) → other ≡ either own other
unfolding either
either-other own other e = rw (ne_eqb own 1 e)

pub either-one : (own other : ℕ) → (own ≡ 1) ⊎ (other ≡ 1) → either own other ≡ 1
unfolding either
either-one own other (inl e) = rw (eq-eqb own 1 e)
either-one own other (inr e) = rw e (go (eqb own 1))
  where
    go : (b : Bool) → ◌≡◌ {A = ℕ} (cases b 1 1) 1
    go true = refl
    go false = refl

pub either-none : (own other : ℕ) → own ≡ 0 → other ≡ 0 → either own other ≡ 0
unfolding either
either-none own other e f = rw (e, f)

pub by-lower : (on j i : ℕ) → j < i → met on 0 ≡ met_by on j i
unfolding met_by
by-lower on j i h = rw (lt-ltb j i h)

pub by_first : (on j i : ℕ) → i ≤ j → met on on ≡ met_by on j i
unfolding met_by
by_first on j i h = rw (le-ltb j i h)

-- a row that was found is in the table, and its note in scratch
module _ (l : List ℕ) (L t j x y : ℕ) (r : Option ℕ) (e : r ≡ lowest (arrow_at l x y) 0 t) (a : r ≡ Some j) where
  pub row-in-table : 3 * t ≤ L → 3 * j + 3 ≤ L
  row-in-table h = let b = lowest-below (arrow_at l x y) t j (sym e ∙ a) in omega arith

  pub note-in-scratch : t ≤ L → j < L
  note-in-scratch h = let b = lowest-below (arrow_at l x y) t j (sym e ∙ a) in omega arith

module _ (l : List ℕ) (t i x y : ℕ) (r : Option ℕ) (e : r ≡ lowest (arrow_at l y x) 0 t) where
  pub met-found : (s : List ℕ) (j own other on : ℕ) (w : Tri) (c : Note) (g : Met) → r ≡ Some j → w ≡ row_at l j → c ≡ note_at s j → other ≡ split_on w c y x →
      on ≡ either own other → g ≡ met_by on j i → g ≡ met_on l t s i own x y
  unfolding met_on
  met-found s j own other on w c g a f k h o q = rw (← e, a, ← f, ← k, ← h, ← o) q

  pub met-alone : (s : List ℕ) (own : ℕ) → r ≡ None → met own own ≡ met_on l t s i own x y
  unfolding met_on
  met-alone s own a = rw (← e, a)

module _ (l : List ℕ) (t : ℕ) (s : List ℕ) (i k : ℕ) (c : Note) (f : c ≡ note_at s i) where
  pub note-whole : c.m ≡ 0 → note 0 0 0 0 0 0 k ≡ note_of l t s i k
  unfolding note_of
  note-whole e = rw (← f, eq-eqb c.m 0 e)

  pub note-split : (w : Tri) (x y z : Met) → (c.m ≡ 0 → ⊥) → w ≡ row_at l i → x ≡ met_on l t s i c.m w.q w.r → y ≡ met_on l t s i c.u w.p w.q →
      z ≡ met_on l t s i c.v w.r w.p → note_by x y z k ≡ note_of l t s i k
  unfolding note_of
  note-split w x y z o g p q r = rw (← f, ne_eqb c.m 0 o, ← g, ← p, ← q, ← r)

-- ---- the bits of a note

by_bits : (on j i : ℕ) → on ≤ 1 → ((met_by on j i).on ≤ 1) × ((met_by on j i).first ≤ 1)
unfolding met_by
by_bits on j i h = go (ltb j i)
  where
    go : (b : Bool) → ((cases b (met on 0) (met on on)).on ≤ 1) × ((cases b (met on 0) (met on on)).first ≤ 1)
    go true = (h, omega arith)
    go false = (h, h)

arrow-le : (w : Tri) (x y a b c : ℕ) → a ≤ 1 → b ≤ 1 → c ≤ 1 → on_arrow w x y a b c ≤ 1
unfolding on_arrow
arrow-le w x y a b c p q r = go (eqb w.q x && eqb w.r y) (eqb w.p x && eqb w.q y)
  where
    go : (d e : Bool) → cases d a (cases e b c) ≤ 1
    go true e = p
    go false true = q
    go false false = r

pub split-le : (w : Tri) (s : List ℕ) (j x y : ℕ) → split_on w (note_at s j) x y ≤ 1
split-le w s j x y = let b = note-bits s j in arrow-le w x y _ _ _ b.m-bit b.u-bit b.v-bit

either-le : (own other : ℕ) → other ≤ 1 → either own other ≤ 1
unfolding either
either-le own other h = go (eqb own 1)
  where
    go : (a : Bool) → cases a 1 other ≤ 1
    go true = omega arith
    go false = h

on-bits : (l : List ℕ) (t : ℕ) (s : List ℕ) (i own x y : ℕ) → own ≤ 1 → ((met_on l t s i own x y).on ≤ 1) × ((met_on l t s i own x y).first ≤ 1)
unfolding met_on
on-bits l t s i own x y h = go (lowest (arrow_at l y x) 0 t)
  where
    go : (r : Option ℕ) → ((on_found r (λ j. met_by (either own (split_on (row_at l j) (note_at s j) y x)) j i) (met own own)).on ≤ 1) ×
        ((on_found r (λ j. met_by (either own (split_on (row_at l j) (note_at s j) y x)) j i) (met own own)).first ≤ 1)
    go (Some j) = by_bits (either own (split_on (row_at l j) (note_at s j) y x)) j i (either-le own _ (split-le (row_at l j) s j y x))
    go None = (h, h)

tight-of : (l : List ℕ) (t : ℕ) (s : List ℕ) (i k : ℕ) → k ≤ 16_777_216 → Tight (note_of l t s i k)
unfolding note_of
tight-of l t s i k h = go (eqb (note_at s i).m 0)
  where
    w : Tri
    w = row_at l i

    go : (b : Bool) → Tight (cases b (note 0 0 0 0 0 0 k)
        (note_by (met_on l t s i (note_at s i).m (row_at l i).q (row_at l i).r) (met_on l t s i (note_at s i).u (row_at l i).p (row_at l i).q)
        (met_on l t s i (note_at s i).v (row_at l i).r (row_at l i).p) k))
    go true = record { m-bit = omega arith; u-bit = omega arith; v-bit = omega arith; fm-bit = omega arith; fu-bit = omega arith; fv-bit = omega arith; few = h }
    go false =
        let n = note-bits s i in
        let a = on-bits l t s i (note_at s i).m w.q w.r n.m-bit in
        let b = on-bits l t s i (note_at s i).u w.p w.q n.u-bit in
        let c = on-bits l t s i (note_at s i).v w.r w.p n.v-bit in
        record { m-bit = a.0; u-bit = b.0; v-bit = c.0; fm-bit = a.1; fu-bit = b.1; fv-bit = c.1; few = h }

-- ---- one row: k new nodes before

pub few-rows : (l s : List ℕ) (nc t i k : ℕ) → Ready s nc l t → 3 * t ≤ length l → i < t → k ≤ 3 * i → k ≤ 300_000
few-rows l s nc t i k r h b e = let z = ready-sized s l nc t r in omega arith

pub note-tight : (l s : List ℕ) (nc t i k : ℕ) (c : Note) → Ready s nc l t → 3 * t ≤ length l → i < t → k ≤ 3 * i → c ≡ note_of l t s i k → Tight c
note-tight l s nc t i k c r h b e q = rw q (tight-of l t s i k (omega (arith, few-rows l s nc t i k r h b e)))

module _ (l s s' : List ℕ) (t i k r : ℕ) (e : numbers s' r ≡ number_row l t i (numbers s k)) where
  pub count_next : (nc : ℕ) → Ready s nc l t → 3 * t ≤ length l → i < t → k ≤ 3 * i → r ≤ 3 * (i + 1)
  unfolding number_row
  count_next nc a h b u =
      let c = note_of l t s i k in
      let z : r ≡ k + c.fm + c.fu + c.fv = ap (λ (n : Numbers). n.count) e in
      let f = few-rows l s nc t i k a h b u in
      let g = tight-of l t s i k (omega arith) in
      omega arith

  table-next : s' ≡ set s i (packed (note_of l t s i k))
  unfolding number_row
  table-next = ap (λ (n : Numbers). n.table) e

  pub ready-next : (nc : ℕ) → i < t → 3 * t ≤ length l → Ready s nc l t → Ready s' nc l t
  ready-next nc h b a = ready-put s s' l nc t i (packed (note_of l t s i k)) (omega arith) table-next a

pub row-noted : (l s s' : List ℕ) (t i k p r : ℕ) (c : Note) → c ≡ note_of l t s i k → p ≡ packed c → s' ≡ set s i p → r ≡ k + c.fm + c.fu + c.fv →
    numbers s' r ≡ number_row l t i (numbers s k)
unfolding number_row
row-noted l s s' t i k p r c e f g h = rw (← e, ← f, g, h)

-- ---- all rows: the index stays

pub ready-numbered : (l s s' : List ℕ) (nc t k : ℕ) → 3 * t ≤ length l → Ready s nc l t → numbers s' k ≡ iter (number_row l t) 0 t (numbers s 0) → Ready s' nc l t
unfolding number_row
ready-numbered l s s' nc t k h r e =
    let b : Ready (iter (number_row l t) 0 t (numbers s 0)).table nc l t =
    iter-keeps (number_row l t) (λ (st : Numbers). Ready st.table nc l t) t (numbers s 0)
    (λ j st u p. ready-put st.table (set st.table j (packed (note_of l t st.table j st.count))) l nc t j (packed (note_of l t st.table j st.count)) (omega arith) refl p) r in
    subst (λ (st : Numbers). Ready st.table nc l t) (sym e) b
