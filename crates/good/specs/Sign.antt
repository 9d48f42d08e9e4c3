-- One number a node: 0 where it does not meet G1 to G4, else the number of its pair b, c. Assumes nothing.
use Rattle.std.specs.Prelude.{◌&&◌, ℕ, ◌+◌, ◌*◌, leb}
use Rattle.lists.specs.Lists.{cases}
use Rattle.meaning.specs.Mesh.{Mesh, Edge}
use Rattle.meaning.specs.Good.{span, G3, G4, G1-4}

-- above 0, and another for each pair of nodes below 32,768
unfoldable pub pair_no : Edge → ℕ
pair_no e = e.lo * 32_768 + e.hi + 1

-- G3 and G4
unfoldable pub sign_on : Mesh → ℕ → ℕ
sign_on m z = cases (G3 m z && G4 m z) (pair_no (span m z)) 0

unfoldable pub sign_of : Mesh → ℕ → ℕ
sign_of m z = cases (G1-4 m z) (pair_no (span m z)) 0

-- 0 for the base nodes
unfoldable pub sign_from : ℕ → Mesh → ℕ → ℕ
sign_from n0 m z = cases (leb n0 z) (sign_of m z) 0

-- as it is noted
abbrev pub fresh : ℕ → Mesh → ℕ → ℕ
fresh n0 m z = 2 * sign_from n0 m z
