-- The notes of all rows, made row by row upward from those that say which rows are split and which edges start. Assumes nothing.
use Rattle.std.specs.Prelude.{List, ℕ, ◌+◌, eqb, ltb, set}
use Rattle.lists.specs.Lists.{cases}
use Rattle.lists.specs.Search.{lowest}
use Rattle.meaning.specs.Tables.{row_at}
use Rattle.tables.specs.Arrow.{arrow_at}
use Rattle.notes.specs.declared.Note.{Note}
use Rattle.notes.specs.Notes.{note, note_at, packed, split_on}
use Rattle.close.specs.Drawn.{on_found}
pub use Rattle.number.specs.declared.Met.{Met}

-- an edge is split, where one of its two rows says so
unfoldable pub either : ℕ → ℕ → ℕ
either own other = cases (eqb own 1) 1 other

abbrev pub met : ℕ → ℕ → Met
met a b = record { on = a; first = b }

-- an edge of row i that row j holds too: first met in i, unless j is lower
unfoldable pub met_by : ℕ → ℕ → ℕ → Met
met_by on j i = cases (ltb j i) (met on 0) (met on on)

-- the edge x→y of row i, where own is 1 if the row itself says that it is split
unfoldable pub met_on : List ℕ → ℕ → List ℕ → ℕ → ℕ → ℕ → ℕ → Met
met_on l t s i own x y = on_found (lowest (arrow_at l y x) 0 t) (λ j. met_by (either own (split_on (row_at l j) (note_at s j) y x)) j i) (met own own)

abbrev pub note_by : Met → Met → Met → ℕ → Note
note_by a b c k = note a.on b.on c.on a.first b.first c.first k

-- the note of row i, where lower rows have k new nodes
unfoldable pub note_of : List ℕ → ℕ → List ℕ → ℕ → ℕ → Note
note_of l t s i k =
    cases (eqb (note_at s i).m 0) (note 0 0 0 0 0 0 k)
    (note_by
    (met_on l t s i (note_at s i).m (row_at l i).q (row_at l i).r)
    (met_on l t s i (note_at s i).u (row_at l i).p (row_at l i).q)
    (met_on l t s i (note_at s i).v (row_at l i).r (row_at l i).p)
    k)

-- the notes, and how many new nodes the rows so far have
pub record Numbers : Type 0 where
  pub table : List ℕ
  pub count : ℕ

abbrev pub numbers : List ℕ → ℕ → Numbers
numbers s k = record { table = s; count = k }

abbrev pub with_note : Note → ℕ → Numbers → Numbers
with_note c i st = numbers (set st.table i (packed c)) (st.count + c.fm + c.fu + c.fv)

unfoldable pub number_row : List ℕ → ℕ → ℕ → Numbers → Numbers
number_row l t i st = with_note (note_of l t st.table i st.count) i st
