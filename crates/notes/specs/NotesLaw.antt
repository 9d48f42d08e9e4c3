-- What is packed is read back; the parts in the form of needs. Assumes nothing.
use Rattle.std.specs.Prelude.{◌≡◌, ◌⊎◌, false, ◌&&◌, List, ℕ, ◌+◌, ◌*◌, ◌≤◌, ◌<◌, eqb, length, get_or, Option, Some, None}
use Rattle.std.proofs.Common.{sym, ap, ◌∙◌, inl, inr, arith}
use borrow.Author.Tests.{eq-eqb, ne_eqb}
use Rattle.lists.specs.Search.{lowest}
use Rattle.lists.specs.SearchLaw.{lowest-below}
use Rattle.meaning.specs.declared.Tri.{Tri}
use Rattle.meaning.specs.Tables.{row_at}
use Rattle.tables.specs.Arrow.{arrow_at}
use Rattle.neighbours.specs.Sized.{Sized}
use Rattle.notes.specs.Notes.{Note, note, packed, unpacked, Bits, Tight, note_at, own_m, own_u, own_v, on_arrow, own_on, across, mid_for, mids, mids_at}

note-path : (x : Note) (a b c d e f k : ℕ) → a ≡ x.m → b ≡ x.u → c ≡ x.v → d ≡ x.fm → e ≡ x.fu → f ≡ x.fv → k ≡ x.before → note a b c d e f k ≡ x
note-path x a b c d e f k p q r s t u v = rw (p, q, r, s, t, u, v)

pub unpacked-packed : (x : Note) → Tight x → unpacked (packed x) ≡ x
unfolding unpacked packed
unpacked-packed x h =
    note-path x _ _ _ _ _ _ _ (omega arith) (omega arith) (omega arith) (omega arith) (omega arith) (omega arith) (omega arith)

-- ---- the parts of the code, in the form of their needs

pub note-read : (s : List ℕ) (i v : ℕ) (r : Note) → v ≡ get_or s i 0 → r ≡ unpacked v → r ≡ note_at s i
unfolding note_at
note-read s i v r e f = f ∙ ap unpacked e

-- one of two pairs differs
abbrev Differ : ℕ → ℕ → ℕ → ℕ → Type 0
Differ a x b y = ((a ≡ x) × (b ≡ y → ⊥)) ⊎ (a ≡ x → ⊥)

not-arrow : (a x b y : ℕ) → Differ a x b y → eqb a x && eqb b y ≡ false
not-arrow a x b y (inl (e, f)) = rw (eq-eqb a x e, ne_eqb b y f)
not-arrow a x b y (inr f) = rw (ne_eqb a x f)

module _ (w : Tri) (x y a b c : ℕ) where
  pub on-m : w.q ≡ x → w.r ≡ y → a ≡ on_arrow w x y a b c
  unfolding on_arrow
  on-m e f = rw (eq-eqb w.q x e, eq-eqb w.r y f)

  pub on-u : Differ w.q x w.r y → w.p ≡ x → w.q ≡ y → b ≡ on_arrow w x y a b c
  unfolding on_arrow
  on-u d e f = rw (not-arrow w.q x w.r y d, eq-eqb w.p x e, eq-eqb w.q y f)

  pub on-v : Differ w.q x w.r y → Differ w.p x w.q y → c ≡ on_arrow w x y a b c
  unfolding on_arrow
  on-v d e = rw (not-arrow w.q x w.r y d, not-arrow w.p x w.q y e)

pub ruleset picked = (on-m, on-u, on-v)

-- a row that was found among the rows in the index is in the table, and its note in scratch
module _ (s l : List ℕ) (nc t j : ℕ) (f : Option ℕ) (x y : ℕ) (z : Sized nc (length l) (length s)) (k : 3 * t ≤ length l) (e : f ≡ lowest (arrow_at l x y) 0 t) (g : f ≡ Some j) where
  pub row-found : 3 * j + 3 ≤ length l
  row-found = let h = lowest-below (arrow_at l x y) t j (sym e ∙ g) in omega arith

  pub note-found : j < length s
  note-found = let h = row-found in omega (arith, z.scratch)

pub row-note : (s l : List ℕ) (nc i : ℕ) → Sized nc (length l) (length s) → 3 * i + 3 ≤ length l → i < length s
row-note s l nc i z b = omega (arith, z.scratch)

module _ (n : ℕ) (l s : List ℕ) (i x y : ℕ) (f : Option ℕ) (e : f ≡ lowest (arrow_at l y x) 0 i) where
  pub across-at : (j r : ℕ) (w : Tri) (c : Note) → f ≡ Some j → w ≡ row_at l j → c ≡ note_at s j → r ≡ own_on n w c y x → r ≡ across n l s i x y
  unfolding across
  across-at j r w c g p q h = h ∙ rw (p, q, ← e, g)

  pub across-none : f ≡ None → 0 ≡ across n l s i x y
  unfolding across
  across-none g = rw (← e, g)

module _ (n : ℕ) (l s : List ℕ) (i on fst own x y : ℕ) where
  pub mid-off : on ≡ 0 → 0 ≡ mid_for n l s i on fst own x y
  unfolding mid_for
  mid-off a = rw (eq-eqb on 0 a)

  pub mid-own : (on ≡ 0 → ⊥) → fst ≡ 1 → own ≡ mid_for n l s i on fst own x y
  unfolding mid_for
  mid-own a b = rw (ne_eqb on 0 a, eq-eqb fst 1 b)

  pub mid-across : (r : ℕ) → (on ≡ 0 → ⊥) → (fst ≡ 1 → ⊥) → r ≡ across n l s i x y → r ≡ mid_for n l s i on fst own x y
  unfolding mid_for
  mid-across r a b e = rw (ne_eqb on 0 a, ne_eqb fst 1 b) e

pub ruleset middle = (mid-off, mid-own, mid-across)

pub mids-path : (a b c d e f : ℕ) → a ≡ d → b ≡ e → c ≡ f → mids a b c ≡ mids d e f
mids-path a b c d e f x y z = cc

pub mids-are : (n : ℕ) (l s : List ℕ) (i : ℕ) (w : Tri) (c : Note) (a b d m u v : ℕ) → w ≡ row_at l i → c ≡ note_at s i →
    a ≡ own_m n c → m ≡ mid_for n l s i c.m c.fm a w.q w.r →
    b ≡ own_u n c → u ≡ mid_for n l s i c.u c.fu b w.p w.q →
    d ≡ own_v n c → v ≡ mid_for n l s i c.v c.fv d w.r w.p → mids m u v ≡ mids_at n l s i
unfolding mids_at
mids-are n l s i w c a b d m u v p q e f g h j k =
    rw (← p, ← q)
    (mids-path _ _ _ _ _ _
    (f ∙ ap (λ o. mid_for n l s i c.m c.fm o w.q w.r) e)
    (h ∙ ap (λ o. mid_for n l s i c.u c.fu o w.p w.q) g)
    (k ∙ ap (λ o. mid_for n l s i c.v c.fv o w.r w.p) j))

pub note-bits : (s : List ℕ) (i : ℕ) → Bits (note_at s i).before (note_at s i)
unfolding note_at unpacked
note-bits s i = record { m-bit = omega arith; u-bit = omega arith; v-bit = omega arith; fm-bit = omega arith; fu-bit = omega arith; fv-bit = omega arith; few = omega arith }
