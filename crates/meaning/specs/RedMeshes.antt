-- W8 by hand: refining in red, green and blue, and what coarsen and restore make of it. Rows of one list, under one claim; what is expected was
-- worked out from the words of 01 and 02. Assumes nothing.
use Rattle.std.specs.Prelude.{◌≡◌, refl, List, [], ◌∷◌, ◌++◌, map, pos, negsuc, replicate}
use Rattle.lists.specs.Search.{lowest, lowest_from}
use Rattle.meaning.specs.declared.Manner.TheVariants.{Newest}
use Rattle.meaning.specs.declared.Quarters.TheVariants.{Red}
use Rattle.meaning.specs.Mesh.{Node, Mesh, tri, mesh, total, twice_area}
use Rattle.meaning.specs.Lawful.{refusal, compatible, fault_of, first_outside, first_misnamed, first_repeat, first_flat, first_unused, first_clash}
use Rattle.meaning.specs.Proper.{none_left, parted_by, apart, first_crowded, first_overlap, uncrowded, disjoint}
use Rattle.meaning.specs.Split.{closure, split_edges, split_at, split, refined}
use Rattle.meaning.specs.Good.{pairs, span, G1-4, good}
use Rattle.meaning.specs.Coarsen.{taken, without, coarsened, good_nodes, pass, restored}
use Rattle.meaning.specs.Calls.{culprit_of, check_no, refine_no, coarsen_no, checks, refines, coarsens, restores}
use Rattle.meaning.specs.HandCase.{Case, check, refine_by, refine, quarter, refine_red, coarsen, restore, computed, says, cuts_red, blames, case, within, at, spot}
use Rattle.meaning.specs.HandMeshes.{square, S}
use Rattle.meaning.specs.OwnMeshes.{wings, winged, cut-m, cut-mu, cut-mv, named, empty}
use Rattle.meaning.specs.QuarterMeshes.{odd_sides, odd_neighbour}

-- ---- one triangle

-- (p,q,r) = (0,1,2), and m, u, v = 3, 4, 5; rows by the numbers inside. As it is, cut red, and cut by W1:
--
--     2                         2                         2
--     |  \                      |  \                      |  \
--     |    \                    |  2 \                    |  1 \
--     |       \                 5-------3                 5-------3
--     |    0     \              |  \ 3  |  \              |  3 /  |  \
--     |            \            |  0 \  |  1 \            |  / 0  |  2 \
--     0---------------1         0-------4-------1         0-------4-------1
abbrev places : List Node
places = at 0 0 ∷ at 8 0 ∷ at 0 8 ∷ []

abbrev one : Mesh
one = mesh places (tri 0 1 2 ∷ [])

abbrev middles : List Node
middles = at 4 4 ∷ at 4 0 ∷ at 0 4 ∷ []

abbrev one_red : Mesh
one_red = mesh (places ++ middles) (tri 0 4 5 ∷ tri 4 1 3 ∷ tri 5 3 2 ∷ tri 3 5 4 ∷ [])

abbrev one_quartered : Mesh
one_quartered = mesh (places ++ middles) (tri 4 3 0 ∷ tri 5 3 2 ∷ tri 4 1 3 ∷ tri 5 0 3 ∷ [])

-- its row 1 then refined by 01
abbrev one_red_refined : Mesh
one_red_refined = mesh (places ++ middles ++ at 6 2 ∷ []) (tri 0 4 5 ∷ tri 6 4 1 ∷ tri 5 3 2 ∷ tri 3 5 4 ∷ tri 6 3 4 ∷ [])

-- ---- an older node goes, and a triangle comes that never was

-- refined by 01
abbrev cut_in_two : Mesh
cut_in_two = mesh (places ++ at 4 4 ∷ []) (tri 3 0 1 ∷ tri 3 2 0 ∷ [])

-- then both halves cut red: node 3 is the newest vertex of its two rows, 0 and 1, and the midpoint of 6 and 8. On the right, without it:
--
--     2                             2
--     | \                           | \
--     | 5  8                        | 4  7
--     | /  |  \                     | /  |  \
--     7  7 | 1  3                   6  6 |    \
--     | \  |  / 0 \                 | \  |  0   \
--     | 6  5---------6              | 5  4---------5
--     | /  2  \ 4 /  3  \           | /  1  \ 3 /  2  \
--     0---------4---------1         0---------3---------1
abbrev two_red : Mesh
two_red =
    mesh (places ++ at 4 4 ∷ at 4 0 ∷ at 2 2 ∷ at 6 2 ∷ at 0 4 ∷ at 2 6 ∷ [])
    (tri 3 5 6 ∷ tri 3 8 5 ∷ tri 5 0 4 ∷ tri 6 4 1 ∷ tri 4 6 5 ∷ tri 8 2 7 ∷ tri 5 7 0 ∷ tri 7 5 8 ∷ [])

-- row 0, (4,5,7), is no triangle that was ever cut
abbrev two_left : Mesh
two_left =
    mesh (places ++ at 4 0 ∷ at 2 2 ∷ at 6 2 ∷ at 0 4 ∷ at 2 6 ∷ [])
    (tri 4 5 7 ∷ tri 4 0 3 ∷ tri 5 3 1 ∷ tri 3 5 4 ∷ tri 7 2 6 ∷ tri 4 6 0 ∷ tri 6 4 7 ∷ [])

-- ---- red, green and blue in one mesh

-- row 0 between row 1, which has the side 0–1 as its refinement edge, and row 2, which has 0–2 as a side and 2–4 as its refinement edge
--
--                 2                                           2
--              /  |  \                                     /  |  \
--           /     |     \                               8   8 |     \
--        /        |        \                         /   \ \  |   4    \
--     4       2   |           \                   4       \ 2 7-----------5
--        \        |       0      \                   \  7  \  |  \    5   |  \
--           \     |                 \                   \   \ |     \     |     \
--              \  |                    \                   \ \|   0    \  |   3    \
--                 0-----------------------1                   0-----------6-----------1
--                    \        1        /                         \    6   |   1    /
--                       \           /                               \     |     /
--                          \     /                                     \  |  /
--                             3                                           3
abbrev flanked : Mesh
flanked = mesh wings (tri 0 1 2 ∷ tri 3 1 0 ∷ tri 0 2 4 ∷ [])

abbrev flanked_places : List Node
flanked_places = wings ++ at 8 8 ∷ at 8 0 ∷ at 0 8 ∷ spot (negsuc 3) (pos 12) ∷ []

-- row 0 marked: cut red, on row 0 and as 3 to 5; row 1 is cut green, on row 1 and as 6; row 2 is cut blue, on row 2 and as 7 and 8
abbrev flanked_red : Mesh
flanked_red =
    mesh flanked_places
    (tri 0 6 7 ∷ tri 6 3 1 ∷ tri 7 8 0 ∷ tri 6 1 5 ∷ tri 7 5 2 ∷ tri 5 7 6 ∷ tri 6 0 3 ∷ tri 8 4 0 ∷ tri 7 2 8 ∷ [])

-- by W1 nodes and neighbours are the same
abbrev flanked_quartered : Mesh
flanked_quartered =
    mesh flanked_places
    (tri 6 5 0 ∷ tri 6 3 1 ∷ tri 7 8 0 ∷ tri 7 5 2 ∷ tri 6 1 5 ∷ tri 7 0 5 ∷ tri 6 0 3 ∷ tri 8 4 0 ∷ tri 7 2 8 ∷ [])

-- ---- two rows that share their refinement edge

-- S, row 0 marked; both rows marked
abbrev square_red : Mesh
square_red =
    mesh (square ++ at 4 4 ∷ at 8 4 ∷ at 4 0 ∷ [])
    (tri 1 5 6 ∷ tri 4 3 0 ∷ tri 5 2 4 ∷ tri 6 4 0 ∷ tri 4 6 5 ∷ tri 4 2 3 ∷ [])

abbrev both_red : Mesh
both_red =
    mesh (square ++ at 4 4 ∷ at 8 4 ∷ at 4 0 ∷ at 0 4 ∷ at 4 8 ∷ [])
    (tri 1 5 6 ∷ tri 3 7 8 ∷ tri 5 2 4 ∷ tri 6 4 0 ∷ tri 4 6 5 ∷ tri 7 0 4 ∷ tri 8 4 2 ∷ tri 4 8 7 ∷ [])

-- ---- the split edges of a row decide how it is cut, not its mark

-- `winged`, row 0 alone cut red: both neighbours are cut green
abbrev winged_red : Mesh
winged_red =
    mesh (wings ++ at 8 8 ∷ at 8 0 ∷ at 0 8 ∷ [])
    (tri 0 6 7 ∷ tri 6 3 1 ∷ tri 7 4 0 ∷ tri 6 1 5 ∷ tri 7 5 2 ∷ tri 5 7 6 ∷ tri 6 0 3 ∷ tri 7 2 4 ∷ [])

-- rows 1 and 2 marked: they split two sides of row 0, the closure splits its refinement edge, and it is cut red too
abbrev drawn_in : Mesh
drawn_in =
    mesh (wings ++ at 8 8 ∷ at 8 0 ∷ at 0 8 ∷ spot (pos 12) (negsuc 3) ∷ spot (pos 4) (negsuc 3) ∷ spot (negsuc 3) (pos 4) ∷ spot (negsuc 3) (pos 12) ∷ [])
    (tri 0 6 7 ∷ tri 3 8 9 ∷ tri 4 10 11 ∷ tri 6 1 5 ∷ tri 7 5 2 ∷ tri 5 7 6 ∷ tri 8 1 6 ∷ tri 9 6 0 ∷ tri 6 9 8 ∷ tri 10 0 7 ∷ tri 11 7 2 ∷ tri 7 11 10 ∷ [])

-- ---- what each case calls, and what must come out

abbrev pub red_cases : List Case
red_cases =
    -- one triangle, and by W1. "Demand 3 doesn't hold": no node is good, restore makes no pass, and three nodes stay; W1's go in two passes
    case 3 one (refine_red (1 ∷ [])) (cuts_red one_red 64) ∷
    case 3 one (quarter (1 ∷ [])) (says 0 one_quartered 0 64) ∷
    case 3 one_red restore (says 0 one_red 0 64) ∷
    case 3 one_red (coarsen (replicate 6 1)) (says 0 one_red 0 64) ∷
    case 3 one_quartered restore (says 0 one 2 64) ∷
    -- the check takes it as a base; what 01 adds to it goes again
    case 3 one_red check (says 0 one_red 0 64) ∷
    case 3 one_red (refine (0 ∷ 1 ∷ 0 ∷ 0 ∷ [])) (says 0 one_red_refined 0 64) ∷
    case 3 one_red_refined restore (says 0 one_red 1 64) ∷
    -- two halves: one pass takes the node that 01 made, and not those of the red cuts; what is left is not compatible
    case 3 cut_in_two (refine_red (1 ∷ 1 ∷ [])) (cuts_red two_red 64) ∷
    case 3 two_red restore (says 0 two_left 1 64) ∷
    case 3 two_left check (says 10 two_left 0 64) ∷
    -- red, green and blue, and by W1
    case 5 flanked (refine_red (1 ∷ 0 ∷ 0 ∷ [])) (cuts_red flanked_red 512) ∷
    case 5 flanked (quarter (1 ∷ 0 ∷ 0 ∷ [])) (says 0 flanked_quartered 0 512) ∷
    case 5 flanked_red restore (says 0 flanked_red 0 512) ∷
    case 5 flanked_quartered restore (says 0 flanked 2 512) ∷
    -- one of two rows, which leaves a labelling that is not compatible; all rows; none
    case 4 S (refine_red (1 ∷ 0 ∷ [])) (cuts_red square_red 128) ∷
    case 4 square_red check (says 10 square_red 0 128) ∷
    case 4 S (refine_red (1 ∷ 1 ∷ [])) (cuts_red both_red 128) ∷
    case 4 both_red check (says 0 both_red 0 128) ∷
    case 4 S (refine_red (0 ∷ 0 ∷ [])) (says 0 S 0 128) ∷
    case 0 empty (refine_red []) (says 0 empty 0 0) ∷
    -- a row that is not marked
    case 5 winged (refine_red (1 ∷ 0 ∷ 0 ∷ [])) (cuts_red winged_red 512) ∷
    case 5 winged (refine_red (0 ∷ 1 ∷ 1 ∷ [])) (cuts_red drawn_in 512) ∷
    -- "One or two split edges are cut as in 01", and no red cut is told: m; m, u; m, v; all, of row 0, from refinement edges alone
    case 5 winged (refine_by Newest Red (1 ∷ 0 ∷ 0 ∷ [])) (says 0 cut-m 0 512) ∷
    case 5 winged (refine_by Newest Red (0 ∷ 1 ∷ 0 ∷ [])) (says 0 cut-mu 0 512) ∷
    case 5 winged (refine_by Newest Red (0 ∷ 0 ∷ 1 ∷ [])) (says 0 cut-mv 0 512) ∷
    case 5 winged (refine_by Newest Red (0 ∷ 1 ∷ 1 ∷ [])) (cuts_red winged_red 512) ∷
    -- refused: 2, by the length and by a byte; 4; 8, by a side and by an edge that a side draws in; 9, by nodes and by rows; rooms that are just enough
    case 4 S (refine_red (1 ∷ [])) (says 2 S 0 128) ∷
    case 4 S (refine_red (1 ∷ 2 ∷ [])) (says 2 S 0 128) ∷
    case 3 (named 0 2 3) (refine_red (1 ∷ 0 ∷ [])) (blames 4 1 (named 0 2 3) (pos 64)) ∷
    case 3 odd_sides (refine_red (1 ∷ [])) (says 8 odd_sides 0 8) ∷
    case 4 odd_neighbour (refine_red (1 ∷ 0 ∷ [])) (says 8 odd_neighbour 0 96) ∷
    within 5 4 3 one (refine_red (1 ∷ [])) (says 9 one 0 64) ∷
    within 6 3 3 one (refine_red (1 ∷ [])) (says 9 one 0 64) ∷
    within 6 4 3 one (refine_red (1 ∷ [])) (cuts_red one_red 64) ∷
    []

pub red-meshes : map computed red_cases ≡ map (λ c. c.expected) red_cases
unfolding total twice_area lowest lowest_from first_outside first_misnamed first_repeat first_flat first_unused first_clash fault_of refusal compatible none_left parted_by apart first_crowded first_overlap uncrowded disjoint closure split_edges split_at split refined pairs span G1-4 good taken without coarsened good_nodes pass restored culprit_of check_no refine_no coarsen_no checks refines coarsens restores
red-meshes = refl
