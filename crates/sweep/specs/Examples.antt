-- W7 by hand: the severity of meshes, and the gravest of any two of their rows. Rows of one list, under one claim. Assumes nothing.
use Rattle.std.specs.Prelude.{[], ◌∷◌, ◌++◌, map, ◌≡◌, refl, ℕ, ◌+◌, length}
use Rattle.lists.specs.Search.{lowest, lowest_from, iter, iter_from}
use Rattle.meaning.specs.Mesh.{Mesh, tri, mesh}
use Rattle.meaning.specs.Proper.{none_left, parted_by, apart, first_crowded, first_overlap, uncrowded, disjoint}
use Rattle.meaning.specs.HandCase.{at}
use Rattle.meaning.specs.HandMeshes.{square, S}
use Rattle.pairs.specs.Pair.{touches, grave}
use Rattle.sweep.specs.Highest.{highest}
use Rattle.sweep.specs.Severity.{severity, grave_of}

-- one side of an edge has a middle node and the other has none
abbrev cracked : Mesh
cracked = mesh (square ++ at 4 4 ∷ []) (tri 1 2 0 ∷ tri 4 3 0 ∷ tri 4 2 3 ∷ [])

-- two triangles that meet in a place, by nodes of their own
abbrev doubled : Mesh
doubled = mesh (square ++ at 8 8 ∷ at 16 8 ∷ at 8 16 ∷ []) (tri 1 2 0 ∷ tri 3 0 2 ∷ tri 4 5 6 ∷ [])

-- a triangle of its own nodes across the diagonal: no node strictly inside an edge
abbrev across : Mesh
across = mesh (square ++ at 3 1 ∷ at 5 3 ∷ at 2 4 ∷ []) (tri 1 2 0 ∷ tri 3 0 2 ∷ tri 4 5 6 ∷ [])

-- two triangles that share interior points, though no corner of one is in the other
abbrev starred : Mesh
starred = mesh (at 0 2 ∷ at 6 2 ∷ at 3 8 ∷ at 3 0 ∷ at 6 6 ∷ at 0 6 ∷ []) (tri 0 1 2 ∷ tri 3 4 5 ∷ [])

-- the gravest of any two rows, the lower first
abbrev gravest : Mesh → ℕ
gravest m = highest (λ i. highest (grave_of m i) (i + 1) (length m.tris)) 0 (length m.tris)

pub by_hand : map (λ m. severity m ∷ gravest m ∷ []) (S ∷ cracked ∷ doubled ∷ across ∷ starred ∷ []) ≡
    (0 ∷ 0 ∷ []) ∷ (2 ∷ 2 ∷ []) ∷ (2 ∷ 2 ∷ []) ∷ (1 ∷ 1 ∷ []) ∷ (1 ∷ 1 ∷ []) ∷ []
unfolding lowest lowest_from iter iter_from none_left parted_by apart first_crowded first_overlap uncrowded disjoint touches grave highest severity
by_hand = refl
