-- A setting by the tables: what stands in its way, after what was judged of them, and the nodes after it. Assumes nothing.
use Rattle.std.specs.Prelude.{Bool, not, ◌&&◌, List, ℕ, eqb, leb, ltb, ℤ, set}
use Rattle.lists.specs.Lists.{cases}
use Rattle.lists.specs.Search.{items}
use Rattle.meaning.specs.declared.Correction.{Correction}
use Rattle.meaning.specs.Fault.{Fault}
use Rattle.meaning.specs.declared.Node.{Node}
use Rattle.meaning.specs.Mesh.{node}
use Rattle.meaning.specs.Lawful.{beyond, fault}
use Rattle.meaning.specs.Tables.{node_at, place_at}

-- 13, 15 or none
unfoldable pub late_fault : ℕ → ℕ → ℕ → Fault
late_fault n0 n z = cases (ltb z n0) (fault 13 0) (cases (leb n z) (fault 15 0) (fault 0 0))

-- f was judged of the tables: 1 and 3 of it come before the value, 4 to 7 after
abbrev pub first_in : Fault → Bool
first_in f = not (eqb f.number 0) && leb f.number 3

unfoldable pub settled : Fault → ℕ → ℕ → ℕ → Correction → Fault
settled f n0 n z c =
    cases (first_in f) f (cases (beyond c) (fault 3 z) (cases (not (eqb f.number 0)) f (late_fault n0 n z)))

-- the first n nodes, z carrying c
unfoldable pub nodes_set : List ℤ → ℕ → ℕ → Correction → List Node
nodes_set nodes n z c = set (items (node_at nodes) 0 n) z (node (place_at nodes z) c)
