-- G2 and the pair b, c, from the two or four rows round a node. Assumes nothing.
use Rattle.std.specs.Prelude.{Bool, false, ◌&&◌, List, ℕ, eqb}
use Rattle.lists.specs.Lists.{cases}
use Rattle.meaning.specs.declared.Tri.{Tri}
use Rattle.meaning.specs.Mesh.{Edge, arrow, holds_arrow}
use Rattle.round.specs.declared.Ends.{Ends}
use Rattle.round.specs.Round.{Numbers, row_in}

-- v holds a→z, where w is (z, a, b)
unfoldable pub joins : Tri → Tri → ℕ → Bool
joins w v z = holds_arrow (arrow w.q z) v

-- w, v are (z, a, b), (z, c, a); x, y are (z, d, c), (z, b, d)
unfoldable pub closing : Tri → Tri → Tri → Tri → ℕ → Bool
closing w v x y z = joins x y z && (eqb x.r v.q && eqb y.q w.r)

-- the brother of w is the first of x, y, v that joins; the other two are the second pair
unfoldable pub four_test : Tri → Tri → Tri → Tri → ℕ → Bool
four_test w x y v z =
    cases (joins w x z) (closing w x y v z)
    (cases (joins w y z) (closing w y x v z)
    (cases (joins w v z) (closing w v x y z)
    false))

unfoldable pub brother_of : Tri → Tri → Tri → Tri → ℕ → Tri
brother_of w x y v z = cases (joins w x z) x (cases (joins w y z) y v)

-- of the rows by number
unfoldable pub two_in : List ℕ → Numbers → ℕ → Bool
two_in l k z = joins (row_in l k.first) (row_in l k.second) z

unfoldable pub four_in : List ℕ → Numbers → ℕ → Bool
four_in l k z = four_test (row_in l k.first) (row_in l k.second) (row_in l k.third) (row_in l k.fourth) z

unfoldable pub brother_in : List ℕ → Numbers → ℕ → Tri
brother_in l k z = brother_of (row_in l k.first) (row_in l k.second) (row_in l k.third) (row_in l k.fourth) z

-- the pair of a node, the lower end first
abbrev pub edge_of : Ends → Edge
edge_of e = record { lo = e.lo; hi = e.hi }
