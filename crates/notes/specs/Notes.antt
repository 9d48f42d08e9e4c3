-- The notes of refine, one number a row, and the numbers of the new nodes that they say. Assumes nothing.
use Rattle.std.specs.Prelude.{◌&&◌, List, ℕ, ◌+◌, ◌*◌, ◌/◌, ◌%◌, ◌≤◌, eqb, get_or, Option, None, Some}
use Rattle.lists.specs.Lists.{cases}
use Rattle.lists.specs.Search.{lowest}
use Rattle.meaning.specs.declared.Tri.{Tri}
use Rattle.meaning.specs.declared.Mids.{Mids}
use Rattle.meaning.specs.Mesh.{Edge, edge, base}
use Rattle.meaning.specs.Split.{number_of}
use Rattle.meaning.specs.Tables.{row_at}
use Rattle.tables.specs.Arrow.{arrow_at}
pub use Rattle.notes.specs.declared.Note.{Note}
pub use Rattle.lists.specs.Lists.{on_found}

-- ---- one number a row

abbrev pub note : ℕ → ℕ → ℕ → ℕ → ℕ → ℕ → ℕ → Note
note a b c d e f k = record { m = a; u = b; v = c; fm = d; fu = e; fv = f; before = k }

unfoldable pub packed : Note → ℕ
packed x = (((((x.before * 2 + x.fv) * 2 + x.fu) * 2 + x.fm) * 2 + x.v) * 2 + x.u) * 2 + x.m

unfoldable pub unpacked : ℕ → Note
unpacked c = note (c % 2) (c / 2 % 2) (c / 4 % 2) (c / 8 % 2) (c / 16 % 2) (c / 32 % 2) (c / 64)

-- six bits and a number
pub record Bits (most : ℕ) (x : Note) : Type 0 where
  pub m-bit : x.m ≤ 1
  pub u-bit : x.u ≤ 1
  pub v-bit : x.v ≤ 1
  pub fm-bit : x.fm ≤ 1
  pub fu-bit : x.fu ≤ 1
  pub fv-bit : x.fv ≤ 1
  pub few : x.before ≤ most

-- that has room
abbrev pub Tight : Note → Type 0
Tight = Bits 16_777_216

-- that 32 bits unpack to
abbrev pub Short : Note → Type 0
Short = Bits 67_108_864

-- the note of row i
unfoldable pub note_at : List ℕ → ℕ → Note
note_at s i = unpacked (get_or s i 0)

-- ---- the numbers of the new nodes, from n on

-- those that a row numbers itself, on q–r, p–q, r–p
abbrev pub own_m : ℕ → Note → ℕ
own_m n c = n + c.before

abbrev pub own_u : ℕ → Note → ℕ
own_u n c = n + c.before + c.fm

abbrev pub own_v : ℕ → Note → ℕ
own_v n c = n + c.before + c.fm + c.fu

-- of three numbers, for q–r, p–q and r–p of row w, the one for its arrow x→y
unfoldable pub on_arrow : Tri → ℕ → ℕ → ℕ → ℕ → ℕ → ℕ
on_arrow w x y a b c = cases (eqb w.q x && eqb w.r y) a (cases (eqb w.p x && eqb w.q y) b c)

-- that of row w with note c on its arrow x→y
abbrev pub own_on : ℕ → Tri → Note → ℕ → ℕ → ℕ
own_on n w c x y = on_arrow w x y (own_m n c) (own_u n c) (own_v n c)

-- 1 where the note c of row w says that its arrow x→y is split
abbrev pub split_on : Tri → Note → ℕ → ℕ → ℕ
split_on w c x y = on_arrow w x y c.m c.u c.v

-- the one on x–y that the lower row across numbered
unfoldable pub across : ℕ → List ℕ → List ℕ → ℕ → ℕ → ℕ → ℕ
across n l s i x y = on_found (lowest (arrow_at l y x) 0 i) (λ j. own_on n (row_at l j) (note_at s j) y x) 0

-- the one on arrow x→y of row i: 0 if the edge is not split; its own, if first met here; else that of the lower row across
unfoldable pub mid_for : ℕ → List ℕ → List ℕ → ℕ → ℕ → ℕ → ℕ → ℕ → ℕ → ℕ
mid_for n l s i on fst own x y = cases (eqb on 0) 0 (cases (eqb fst 1) own (across n l s i x y))

abbrev pub mids : ℕ → ℕ → ℕ → Mids
mids a b c = record { m = a; u = b; v = c }

abbrev pub mids_by : ℕ → List ℕ → List ℕ → ℕ → Tri → Note → Mids
mids_by n l s i w c =
    mids
    (mid_for n l s i c.m c.fm (own_m n c) w.q w.r)
    (mid_for n l s i c.u c.fu (own_u n c) w.p w.q)
    (mid_for n l s i c.v c.fv (own_v n c) w.r w.p)

-- the numbers of the new nodes of row i
unfoldable pub mids_at : ℕ → List ℕ → List ℕ → ℕ → Mids
mids_at n l s i = mids_by n l s i (row_at l i) (note_at s i)

-- ---- the same by document 01's numbers: 0 for an edge that is not split

abbrev pub or_zero : Option ℕ → ℕ
or_zero None = 0
or_zero (Some k) = k

abbrev pub num : ℕ → List Edge → Edge → ℕ
num n es e = or_zero (number_of n es e)

-- those of the edges of a row
abbrev pub numbers_of : ℕ → List Edge → Tri → Mids
numbers_of n es w = mids (num n es (base w)) (num n es (edge w.p w.q)) (num n es (edge w.r w.p))
