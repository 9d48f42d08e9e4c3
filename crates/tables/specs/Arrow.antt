-- Which row of a triangle table holds a directed edge. Assumes nothing.
use Rattle.std.specs.Prelude.{Bool, List, ℕ}
use Rattle.meaning.specs.Mesh.{arrow, holds_arrow}
use Rattle.meaning.specs.Tables.{row_at}

-- row i holds x→y
unfoldable pub arrow_at : List ℕ → ℕ → ℕ → ℕ → Bool
arrow_at l x y i = holds_arrow (arrow x y) (row_at l i)
