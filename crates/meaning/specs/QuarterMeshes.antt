-- W1 by hand: refining from all three edges of the marked triangles, and back. Rows of one list, under one claim; what is expected was
-- worked out from the words of 01 and 02. Assumes nothing.
use Rattle.std.specs.Prelude.{◌≡◌, refl, List, [], ◌∷◌, ◌++◌, map, pos, negsuc, replicate}
use Rattle.lists.specs.Search.{lowest, lowest_from}
use Rattle.meaning.specs.Mesh.{Node, Mesh, tri, mesh, total, twice_area}
use Rattle.meaning.specs.Lawful.{refusal, compatible, fault_of, first_outside, first_misnamed, first_repeat, first_flat, first_unused, first_clash}
use Rattle.meaning.specs.Proper.{none_left, parted_by, apart, first_crowded, first_overlap, uncrowded, disjoint}
use Rattle.meaning.specs.Split.{closure, split_edges, split_at, split, refined}
use Rattle.meaning.specs.Good.{pairs, span, G1-4, good}
use Rattle.meaning.specs.Coarsen.{taken, without, coarsened, good_nodes, pass, restored}
use Rattle.meaning.specs.Calls.{culprit_of, check_no, refine_no, coarsen_no, checks, refines, coarsens, restores}
use Rattle.meaning.specs.HandCase.{Case, refine, quarter, coarsen, restore, computed, says, case, within, at, spot}
use Rattle.meaning.specs.HandMeshes.{square, S, R, after2}
use Rattle.meaning.specs.OwnMeshes.{wings, winged, cut_all, empty}

-- S, row 0 marked: its neighbour across the refinement edge is bisected
abbrev quartered : Mesh
quartered =
    mesh (square ++ at 4 4 ∷ at 8 4 ∷ at 4 0 ∷ [])
    (tri 5 4 1 ∷ tri 4 3 0 ∷ tri 6 4 0 ∷ tri 5 2 4 ∷ tri 6 1 4 ∷ tri 4 2 3 ∷ [])

-- S, both rows marked: the refinement edge that they share has one number
abbrev both_quartered : Mesh
both_quartered =
    mesh (square ++ at 4 4 ∷ at 8 4 ∷ at 4 0 ∷ at 0 4 ∷ at 4 8 ∷ [])
    (tri 5 4 1 ∷ tri 7 4 3 ∷ tri 6 4 0 ∷ tri 5 2 4 ∷ tri 6 1 4 ∷ tri 8 4 2 ∷ tri 7 0 4 ∷ tri 8 3 4 ∷ [])

-- case 2, rows 0 and 2 marked: they share the side 1–4. Each has one more side, by which rows 1 and 3 are drawn in
abbrev side_shared : Mesh
side_shared =
    mesh (square ++ at 4 4 ∷ at 8 4 ∷ at 6 2 ∷ at 6 6 ∷ at 0 4 ∷ at 2 2 ∷ at 4 0 ∷ at 4 8 ∷ [])
    (tri 6 5 4 ∷ tri 8 4 3 ∷ tri 9 10 4 ∷ tri 7 11 4 ∷ tri 7 5 2 ∷ tri 6 1 5 ∷ tri 7 4 5 ∷ tri 9 8 0 ∷ tri 9 4 8 ∷ tri 6 10 1 ∷ tri 9 0 10 ∷ tri 6 4 10 ∷ tri 11 3 4 ∷ tri 7 2 11 ∷ [])

-- ---- the closure runs past one ring

-- seven rows from right to left. The last has one neighbour, row 5, with the side 1–5 in common. From there on each row's refinement
-- edge is a side of the next lower row, down to row 2, which shares its own with row 1; row 0 is not reached
--
--       5------6------7------8
--       | \  5 | \  3 | \  1 | \
--       |  \   |  \   |  \   |  \
--       | 6 \  | 4 \  | 2 \  | 0 \
--       0------1------2------3------4
abbrev chain_places : List Node
chain_places = at 0 0 ∷ at 8 0 ∷ at 16 0 ∷ at 24 0 ∷ at 32 0 ∷ at 0 8 ∷ at 8 8 ∷ at 16 8 ∷ at 24 8 ∷ []

abbrev chain : Mesh
chain = mesh chain_places (tri 8 3 4 ∷ tri 8 7 3 ∷ tri 2 3 7 ∷ tri 6 2 7 ∷ tri 1 2 6 ∷ tri 5 1 6 ∷ tri 5 0 1 ∷ [])

-- its last row marked: the edges 3–7, 2–7, 2–6, 1–6, 1–5, 0–1, 0–5, in the order of their numbers
abbrev chain_quartered : Mesh
chain_quartered =
    mesh (chain_places ++ at 20 4 ∷ at 16 4 ∷ at 12 4 ∷ at 8 4 ∷ at 4 4 ∷ at 4 0 ∷ at 0 4 ∷ [])
    (tri 8 3 4 ∷ tri 9 8 7 ∷ tri 9 2 3 ∷ tri 11 10 6 ∷ tri 11 1 2 ∷ tri 13 12 5 ∷ tri 15 14 5 ∷ tri 9 3 8 ∷ tri 10 9 7 ∷ tri 10 2 9 ∷ tri 10 7 6 ∷ tri 11 2 10 ∷ tri 12 11 6 ∷ tri 12 1 11 ∷ tri 12 6 5 ∷ tri 13 1 12 ∷ tri 13 14 1 ∷ tri 15 0 14 ∷ tri 13 5 14 ∷ [])

-- by 01 the last row alone is bisected
abbrev chain_refined : Mesh
chain_refined = mesh (chain_places ++ at 4 0 ∷ []) (tri 8 3 4 ∷ tri 8 7 3 ∷ tri 2 3 7 ∷ tri 6 2 7 ∷ tri 1 2 6 ∷ tri 5 1 6 ∷ tri 9 5 0 ∷ tri 9 1 5 ∷ [])

-- S quartered, then row 0 refined by 01
abbrev quartered_refined : Mesh
quartered_refined =
    mesh (square ++ at 4 4 ∷ at 8 4 ∷ at 4 0 ∷ at 6 2 ∷ [])
    (tri 7 5 4 ∷ tri 4 3 0 ∷ tri 6 4 0 ∷ tri 5 2 4 ∷ tri 7 6 1 ∷ tri 4 2 3 ∷ tri 7 1 5 ∷ tri 7 4 6 ∷ [])

-- then row 4 marked: its sides draw in rows 6 and 7, row 7 draws in row 2, row 2 row 1
abbrev mixed : Mesh
mixed =
    mesh (square ++ at 4 4 ∷ at 8 4 ∷ at 4 0 ∷ at 6 2 ∷ at 0 4 ∷ at 2 2 ∷ at 4 2 ∷ at 6 0 ∷ at 5 1 ∷ at 7 1 ∷ at 8 2 ∷ [])
    (tri 7 5 4 ∷ tri 8 4 3 ∷ tri 10 9 6 ∷ tri 5 2 4 ∷ tri 12 11 7 ∷ tri 4 2 3 ∷ tri 13 14 7 ∷ tri 10 7 4 ∷ tri 9 8 0 ∷ tri 9 4 8 ∷ tri 9 0 6 ∷ tri 10 4 9 ∷ tri 13 11 1 ∷ tri 12 6 11 ∷ tri 13 7 11 ∷ tri 14 5 7 ∷ tri 13 1 14 ∷ tri 12 10 6 ∷ tri 12 7 10 ∷ [])

-- R, row 0 marked: round the inner node
abbrev round_quartered : Mesh
round_quartered =
    mesh (at 0 0 ∷ at 16 0 ∷ at 0 16 ∷ at 4 4 ∷ at 10 2 ∷ at 8 0 ∷ at 2 2 ∷ at 2 10 ∷ [])
    (tri 5 4 0 ∷ tri 7 1 2 ∷ tri 6 2 0 ∷ tri 6 4 3 ∷ tri 5 1 4 ∷ tri 6 0 4 ∷ tri 4 7 3 ∷ tri 4 1 7 ∷ tri 7 6 3 ∷ tri 7 2 6 ∷ [])

-- ---- a side of a marked triangle is a neighbour's refinement edge that is in the set already

-- row 1 of `winged` marked: row 0 has its refinement edge for a side
abbrev wing_quartered : Mesh
wing_quartered =
    mesh (wings ++ at 8 8 ∷ at 8 0 ∷ spot (pos 12) (negsuc 3) ∷ spot (pos 4) (negsuc 3) ∷ [])
    (tri 6 5 0 ∷ tri 7 6 3 ∷ tri 4 0 2 ∷ tri 5 2 0 ∷ tri 6 1 5 ∷ tri 8 6 0 ∷ tri 7 1 6 ∷ tri 8 3 6 ∷ [])

-- rows 0 and 1 marked: the edge 0–1 starts by both
abbrev wings_quartered : Mesh
wings_quartered =
    mesh (wings ++ at 8 8 ∷ at 8 0 ∷ at 0 8 ∷ spot (pos 12) (negsuc 3) ∷ spot (pos 4) (negsuc 3) ∷ [])
    (tri 6 5 0 ∷ tri 8 6 3 ∷ tri 7 4 0 ∷ tri 7 5 2 ∷ tri 6 1 5 ∷ tri 7 0 5 ∷ tri 9 6 0 ∷ tri 8 1 6 ∷ tri 9 3 6 ∷ tri 7 2 4 ∷ [])

-- ---- 8

-- the refinement edge has even sums, the sides have odd ones
abbrev pub odd_sides : Mesh
odd_sides = mesh (at 1 1 ∷ at 4 0 ∷ at 0 4 ∷ []) (tri 0 1 2 ∷ [])

abbrev odd_sides_refined : Mesh
odd_sides_refined = mesh (at 1 1 ∷ at 4 0 ∷ at 0 4 ∷ at 2 2 ∷ []) (tri 3 0 1 ∷ tri 3 2 0 ∷ [])

-- the three edges of row 0 have even sums, the refinement edge 0–3 that its side draws in has not
abbrev pub odd_neighbour : Mesh
odd_neighbour = mesh (at 0 4 ∷ at 8 4 ∷ at 0 12 ∷ at 3 0 ∷ []) (tri 0 1 2 ∷ tri 1 0 3 ∷ [])

-- ---- what each case calls, and what must come out

abbrev pub quarter_cases : List Case
quarter_cases =
    -- S, row 0 marked; back in two passes: the first takes 5 and 6, the second is the last of case 5
    case 4 S (quarter (1 ∷ 0 ∷ [])) (says 0 quartered 0 128) ∷
    case 4 quartered restore (says 0 S 2 128) ∷
    case 4 quartered (coarsen (replicate 7 1)) (says 0 after2 0 128) ∷
    -- both rows marked; none
    case 4 S (quarter (1 ∷ 1 ∷ [])) (says 0 both_quartered 0 128) ∷
    case 4 both_quartered restore (says 0 S 2 128) ∷
    case 4 S (quarter (0 ∷ 0 ∷ [])) (says 0 S 0 128) ∷
    case 0 empty (quarter []) (says 0 empty 0 0) ∷
    -- two marked triangles with a side in common; by 01 and by W1 in turn, and back
    case 4 after2 (quarter (1 ∷ 0 ∷ 1 ∷ 0 ∷ [])) (says 0 side_shared 0 128) ∷
    case 4 side_shared restore (says 0 S 3 128) ∷
    -- the closure runs past one ring
    case 9 chain (quarter (0 ∷ 0 ∷ 0 ∷ 0 ∷ 0 ∷ 0 ∷ 1 ∷ [])) (says 0 chain_quartered 0 448) ∷
    case 9 chain (refine (0 ∷ 0 ∷ 0 ∷ 0 ∷ 0 ∷ 0 ∷ 1 ∷ [])) (says 0 chain_refined 0 448) ∷
    case 4 quartered (refine (1 ∷ 0 ∷ 0 ∷ 0 ∷ 0 ∷ 0 ∷ [])) (says 0 quartered_refined 0 128) ∷
    case 4 quartered_refined (quarter (0 ∷ 0 ∷ 0 ∷ 0 ∷ 1 ∷ 0 ∷ 0 ∷ 0 ∷ [])) (says 0 mixed 0 128) ∷
    case 4 mixed restore (says 0 S 5 128) ∷
    case 4 R (quarter (1 ∷ 0 ∷ 0 ∷ [])) (says 0 round_quartered 0 256) ∷
    -- a side that is a neighbour's refinement edge: row 0 marked, as 01 with rows 1 and 2 marked; the neighbour marked; both marked
    case 5 winged (quarter (1 ∷ 0 ∷ 0 ∷ [])) (says 0 cut_all 0 512) ∷
    case 5 winged (quarter (0 ∷ 1 ∷ 0 ∷ [])) (says 0 wing_quartered 0 512) ∷
    case 5 winged (quarter (1 ∷ 1 ∷ 0 ∷ [])) (says 0 wings_quartered 0 512) ∷
    case 5 wings_quartered restore (says 0 winged 3 512) ∷
    -- 8 by a side, and by an edge that a side draws in, where 01 says 0
    case 3 odd_sides (quarter (1 ∷ [])) (says 8 odd_sides 0 8) ∷
    case 3 odd_sides (refine (1 ∷ [])) (says 0 odd_sides_refined 0 8) ∷
    case 4 odd_neighbour (quarter (1 ∷ 0 ∷ [])) (says 8 odd_neighbour 0 96) ∷
    -- 9 by nodes and by rows, where 01 says 0; rooms that are just enough
    within 5 4 4 S (quarter (1 ∷ 0 ∷ [])) (says 9 S 0 128) ∷
    within 5 4 4 S (refine (1 ∷ 0 ∷ [])) (says 0 after2 0 128) ∷
    within 6 6 4 S (quarter (1 ∷ 0 ∷ [])) (says 9 S 0 128) ∷
    within 7 5 4 S (quarter (1 ∷ 0 ∷ [])) (says 9 S 0 128) ∷
    within 7 6 4 S (quarter (1 ∷ 0 ∷ [])) (says 0 quartered 0 128) ∷
    -- 2, and 8 before 9
    case 4 S (quarter (1 ∷ [])) (says 2 S 0 128) ∷
    within 3 1 3 odd_sides (quarter (1 ∷ [])) (says 8 odd_sides 0 8) ∷
    []

pub quarter-meshes : map computed quarter_cases ≡ map (λ c. c.expected) quarter_cases
unfolding total twice_area lowest lowest_from first_outside first_misnamed first_repeat first_flat first_unused first_clash fault_of refusal compatible none_left parted_by apart first_crowded first_overlap uncrowded disjoint closure split_edges split_at split refined pairs span G1-4 good taken without coarsened good_nodes pass restored culprit_of check_no refine_no coarsen_no checks refines coarsens restores
quarter-meshes = refl
