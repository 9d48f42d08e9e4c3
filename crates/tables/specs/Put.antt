-- A row or a node put into its table. Assumes nothing.
use Rattle.std.specs.Prelude.{List, ℕ, ℤ}
use Rattle.lists.specs.Table.{write_at}
use Rattle.meaning.specs.declared.Node.{Node}
use Rattle.meaning.specs.declared.Tri.{Tri}
use Rattle.meaning.specs.Tables.{node_form, row_form}

-- the table with row i replaced
unfoldable pub set_row : List ℕ → ℕ → Tri → List ℕ
set_row = write_at row_form

-- the table with node k replaced
unfoldable pub set_node : List ℤ → ℕ → Node → List ℤ
set_node = write_at node_form
