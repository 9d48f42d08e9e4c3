-- The cut of one triangle as twelve numbers and a count, in a table, and of all rows. Assumes nothing.
use Rattle.std.specs.Prelude.{Bool, List, [], ◌∷◌, ◌++◌, map, ℕ, zero, suc, ◌+◌, ◌-◌, ◌*◌, eqb, length, replicate, is_some, Option, None, Some}
use Rattle.lists.specs.Lists.{cases, joined}
use Rattle.lists.specs.Search.{iter, lowest}
use Rattle.meaning.specs.declared.Tri.{Tri}
use Rattle.meaning.specs.declared.Mids.{Mids}
use Rattle.meaning.specs.declared.Quarters.{Quarters}
use Rattle.meaning.specs.declared.Quarters.TheVariants.{Bisected, Red}
use Rattle.meaning.specs.Split.{Cut, cutting_of}
use Rattle.meaning.specs.Tables.{row_at, flat_rows}
use Rattle.tables.specs.Put.{set_row}
use Rattle.notes.specs.declared.Note.{Note}
use Rattle.notes.specs.Notes.{note_at, mids_at}
use Rattle.cut.specs.declared.Children.{Children}

-- ---- one triangle

-- a number of a node, where 0 says that the edge is not split
abbrev pub opt : ℕ → Option ℕ
opt zero = None
opt (suc k) = Some (suc k)

-- the triangle w cut at the nodes numbered k
unfoldable pub cut_by : Quarters → Tri → Mids → Cut
cut_by q w k = cutting_of q w (opt k.m) (opt k.u) (opt k.v)

-- a cut as twelve numbers and a count
abbrev pub children : Cut → Children
children c = record {
  rows = flat_rows (c.kept ∷ c.added) ++ replicate (12 - 3 * suc (length c.added)) 0;
  count = suc (length c.added);
}

-- ---- in a table

-- row k of the children put at row at + k - 1
unfoldable pub append : List ℕ → ℕ → ℕ → List ℕ → List ℕ
append rows at k l = set_row l (at + k - 1) (row_at rows k)

-- the first on row i, the others from row `at` on
unfoldable pub placed : List ℕ → ℕ → List ℕ → ℕ → ℕ → List ℕ
placed rows count l i at = iter (append rows at) 1 count (set_row l i (row_at rows 0))

-- rows put one after the other
unfoldable pub put_rows : List ℕ → ℕ → List Tri → List ℕ
put_rows l at [] = l
put_rows l at (w ∷ ws) = put_rows (set_row l at w) (at + 1) ws

unfoldable pub put_cut : Cut → ℕ → ℕ → List ℕ → List ℕ
put_cut c i at l = put_rows (set_row l i c.kept) at c.added

-- ---- all rows

-- the cut of row i, at the numbers that the notes say
unfoldable pub cut_at : Quarters → ℕ → List ℕ → List ℕ → ℕ → Cut
cut_at q n l s i = cut_by q (row_at l i) (mids_at n l s i)

-- how many rows it adds
unfoldable pub added_at : Quarters → ℕ → List ℕ → List ℕ → ℕ → ℕ
added_at q n l s i = length (cut_at q n l s i).added

-- "The left child, or its own left child, keeps the father's row"; "Appended at the end, fathers in row order"
unfoldable pub cut_all : List Cut → List Tri
cut_all cs = map (λ c. c.kept) cs ++ joined (λ c. c.added) cs

-- how many edges of a row are split, by its note
abbrev pub splits_of : Note → ℕ
splits_of c = c.m + c.u + c.v

unfoldable pub splits : List ℕ → ℕ → ℕ
splits s i = splits_of (note_at s i)

-- ---- red cuts

-- "with all three edges split", by its note
unfoldable pub wholly_at : List ℕ → ℕ → Bool
wholly_at s i = eqb (splits s i) 3

-- W8: 1 when a red cut is made of t rows, "else 0", by their notes
unfoldable pub red_at : Quarters → List ℕ → ℕ → ℕ
red_at Bisected s t = 0
red_at Red s t = cases (is_some (lowest (wholly_at s) 0 t)) 1 0
