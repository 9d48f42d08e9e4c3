-- The split edges in the order in which they are first met, as the notes say. Assumes nothing.
use Rattle.std.specs.Prelude.{◌≡◌, Bool, List, [], ℕ, ◌+◌, eqb}
use Rattle.lists.specs.Lists.{cons_if, joined, up_to}
use Rattle.lists.specs.Tally.{bit}
use Rattle.meaning.specs.declared.Tri.{Tri}
use Rattle.meaning.specs.Mesh.{Edge, edge, base}
use Rattle.meaning.specs.Tables.{row_at}
use Rattle.notes.specs.Notes.{Note, note_at}

-- those of a row, in the order q–r, p–q, r–p
abbrev pub met_of : Tri → Note → List Edge
met_of w c =
    cons_if (eqb c.fm 1) (base w) (cons_if (eqb c.fu 1) (edge w.p w.q) (cons_if (eqb c.fv 1) (edge w.r w.p) []))

unfoldable pub met_at : List ℕ → List ℕ → ℕ → List Edge
met_at l s i = met_of (row_at l i) (note_at s i)

-- those of the rows below i
unfoldable pub met_to : List ℕ → List ℕ → ℕ → List Edge
met_to l s i = joined (met_at l s) (up_to i)

-- the number of the node that comes next, after a row with note c
abbrev pub after : ℕ → Note → ℕ
after n c = n + c.before + c.fm + c.fu + c.fv

-- a note says which edges of its row a test picks
pub record Says (f : Edge → Bool) (w : Tri) (c : Note) : Type 0 where
  pub m-said : c.m ≡ bit (f (base w))
  pub u-said : c.u ≡ bit (f (edge w.p w.q))
  pub v-said : c.v ≡ bit (f (edge w.r w.p))
