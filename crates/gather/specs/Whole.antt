-- The notes when all is settled, and what a mesh leaves in its tables. Assumes nothing.
use Rattle.std.specs.Prelude.{◌≡◌, List, ℕ, ◌+◌, ◌*◌, ◌<◌, ℤ, pos, length, get_or}
use Rattle.meaning.specs.Mesh.{Mesh}
use Rattle.meaning.specs.Coarsen.{taken, renumber}
use Rattle.meaning.specs.Tables.{row_at, flat_nodes, flat_rows, filled}
use Rattle.gather.specs.Goes.{fate_no}
use Rattle.gather.specs.GoneLaw.{take_no}
use Rattle.refusals.specs.declared.Counts.{Counts}

-- each node with its pair, where it goes
pub record Going (s : List ℕ) (nc n0 : ℕ) (m : Mesh) (marks : List ℕ) (n : ℕ) : Type 0 where
  pub pairs : (z : ℕ) → z < n → get_or s (nc + z) 0 ≡ take_no n0 m marks z

-- and the new numbers, and what becomes of each row
pub record Settled (s : List ℕ) (nc n0 : ℕ) (m : Mesh) (marks l : List ℕ) (n t : ℕ) : Type 0 where
  pub numbers : (z : ℕ) → z < n → get_or s z 0 ≡ renumber (taken n0 m marks) z
  pub pairs : (z : ℕ) → z < n → get_or s (nc + z) 0 ≡ take_no n0 m marks z
  pub fates : (i : ℕ) → i < t → get_or s (2 * nc + i) 0 ≡ fate_no (take_no n0 m marks (row_at l i).p) (row_at l i)

pub record Tabled : Type 0 where
  pub counts : Counts
  pub nodes : List ℤ
  pub rows : List ℕ

abbrev pub tabled : Counts → List ℤ → List ℕ → Tabled
tabled c a b = record { counts = c; nodes = a; rows = b }

abbrev pub counts : ℕ → ℕ → Counts
counts a b = record { n = a; t = b }

-- a mesh in tables of these lengths
unfoldable pub tabled_of : ℕ → ℕ → Mesh → Tabled
tabled_of nl tl m = tabled (counts (length m.nodes) (length m.tris)) (filled (pos 0) nl (flat_nodes m.nodes)) (filled 0 tl (flat_rows m.tris))
