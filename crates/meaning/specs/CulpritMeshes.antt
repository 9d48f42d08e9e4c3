-- W2 by hand: which node or row an answer names. Rows of one list, under one claim; what is expected was worked out from the words of 01 and
-- 02. Assumes nothing.
use Rattle.std.specs.Prelude.{◌≡◌, refl, List, [], ◌∷◌, ◌++◌, map, ℕ, ℤ, pos, negsuc, length, replicate}
use Rattle.lists.specs.Search.{lowest, lowest_from}
use Rattle.meaning.specs.Mesh.{Mesh, tri, mesh, total, twice_area}
use Rattle.meaning.specs.Lawful.{refusal, compatible, fault_of, first_outside, first_misnamed, first_repeat, first_flat, first_unused, first_clash}
use Rattle.meaning.specs.Proper.{none_left, parted_by, apart, first_crowded, first_overlap, uncrowded, disjoint}
use Rattle.meaning.specs.Split.{closure, split_edges, split_at, split, refined}
use Rattle.meaning.specs.Good.{pairs, span, G1-4, good}
use Rattle.meaning.specs.Coarsen.{taken, without, coarsened, good_nodes, pass, restored}
use Rattle.meaning.specs.Calls.{culprit_of, check_no, refine_no, coarsen_no, checks, refines, coarsens, restores}
use Rattle.meaning.specs.HandCase.{Case, check, refine, quarter, refine_red, coarsen, restore, computed, says, blames, case, within, at, spot}
use Rattle.meaning.specs.HandMeshes.{square, S, after2}

-- ---- several at fault: one is named, and later numbers apply to a lower row or node

-- 3: node 2 by its y, node 3 by its x, node 4 by both. Row 0 names node 9, node 0 is in no row
abbrev outsiders : Mesh
outsiders =
    mesh (at 0 0 ∷ at 8 0 ∷ at 0 1_048_577 ∷ spot (negsuc 1_048_576) (pos 0) ∷ at 1_048_577 1_048_577 ∷ at 8 8 ∷ []) (tri 1 5 9 ∷ [])

-- 4: row 2 names node 3 twice, rows 3 and 5 name nodes 4 and 7. Row 1 has 2→0 as row 0 has
abbrev misnaming : Mesh
misnaming = mesh square (tri 1 2 0 ∷ tri 2 0 3 ∷ tri 3 3 1 ∷ tri 0 1 4 ∷ tri 3 2 1 ∷ tri 7 0 1 ∷ [])

-- 5: rows 1, 3 and 4 have 1→2. Row 0 is flat, node 0 is in no row
abbrev thrice : Mesh
thrice =
    mesh (at 9 9 ∷ at 0 0 ∷ at 8 0 ∷ at 8 8 ∷ at 0 8 ∷ at 4 4 ∷ spot (pos 4) (negsuc 3) ∷ [])
    (tri 1 5 3 ∷ tri 1 2 5 ∷ tri 2 3 5 ∷ tri 4 1 2 ∷ tri 2 6 1 ∷ [])

-- 5: rows 0 and 3 have 0→1, rows 1 and 2 have 2→3
abbrev nested : Mesh
nested = mesh (square ++ at 4 4 ∷ at 4 12 ∷ []) (tri 0 1 4 ∷ tri 2 3 4 ∷ tri 5 2 3 ∷ tri 5 0 1 ∷ [])

-- 5: row 3 has 0→1 as row 0 has, and 1→2 as row 1 has
abbrev two_at_once : Mesh
two_at_once = mesh (square ++ at 4 4 ∷ []) (tri 0 1 4 ∷ tri 1 2 4 ∷ tri 2 3 4 ∷ tri 0 1 2 ∷ tri 3 0 4 ∷ [])

-- 6: rows 1 and 4 have a twice-area below 0, row 2 has 0. Node 0 is in no row
abbrev leaning : Mesh
leaning = mesh (at 9 9 ∷ square ++ at 4 4 ∷ []) (tri 3 4 5 ∷ tri 2 1 5 ∷ tri 4 2 5 ∷ tri 1 2 3 ∷ tri 4 3 2 ∷ [])

-- 7: nodes 2, 4 and 5. The labelling is not compatible
abbrev loners : Mesh
loners = mesh (at 0 0 ∷ at 8 0 ∷ at 20 20 ∷ at 8 8 ∷ at 21 20 ∷ at 20 21 ∷ at 0 8 ∷ []) (tri 0 1 3 ∷ tri 6 0 3 ∷ [])

-- refused alike by every call, all that can be marked being marked
abbrev through_all : ℕ → ℕ → Mesh → ℤ → List Case
through_all k z m twice =
    case 0 m check (blames k z m twice) ∷
    case 0 m (refine (replicate (length m.tris) 1)) (blames k z m twice) ∷
    case 0 m (quarter (replicate (length m.tris) 1)) (blames k z m twice) ∷
    case 0 m (refine_red (replicate (length m.tris) 1)) (blames k z m twice) ∷
    case 0 m (coarsen (replicate (length m.nodes) 1)) (blames k z m twice) ∷
    case 0 m restore (blames k z m twice) ∷
    []

-- ---- of the mesh as given

-- 7: node 5. A pass would take node 4, which is good, and leave node 4 in no row
abbrev grown_loner : Mesh
grown_loner = mesh (after2.nodes ++ at 20 20 ∷ []) after2.tris

-- ---- numbers that name nobody

-- 10: row 3 alone clashes
abbrev clashing : Mesh
clashing = mesh (square ++ at 20 0 ∷ at 28 0 ∷ at 28 8 ∷ at 20 8 ∷ []) (tri 1 2 0 ∷ tri 3 0 2 ∷ tri 4 5 6 ∷ tri 7 4 6 ∷ [])

-- 8: row 2 alone has odd sums
abbrev odd_last : Mesh
odd_last = mesh (square ++ at 20 20 ∷ at 21 20 ∷ at 20 21 ∷ []) (tri 1 2 0 ∷ tri 3 0 2 ∷ tri 4 5 6 ∷ [])

abbrev pub culprit_cases : List Case
culprit_cases =
    -- "Refusals 3 to 7 are to carry the lowest offending number as well: a node for 3 and 7, a triangle for 4 and 6,"
    through_all 3 2 outsiders (pos 64) ++
    through_all 4 2 misnaming (negsuc 63) ++
    through_all 6 1 leaning (pos 0) ++
    through_all 7 2 loners (pos 128) ++
    -- "and for 5 the lowest triangle with a directed edge that a lower row already has."
    through_all 5 3 thrice (pos 96) ++
    through_all 5 2 nested (pos 128) ++
    through_all 5 3 two_at_once (pos 192) ++
    case 4 grown_loner (coarsen (replicate 6 1)) (blames 7 5 grown_loner (pos 128)) ∷
    case 4 grown_loner restore (blames 7 5 grown_loner (pos 128)) ∷
    -- "All other answers, later numbers too, carry 0 there."
    case 4 S check (says 0 S 0 128) ∷
    case 0 thrice (refine (0 ∷ 0 ∷ 0 ∷ 0 ∷ [])) (says 2 thrice 0 96) ∷
    case 0 thrice (quarter (0 ∷ 0 ∷ 2 ∷ 0 ∷ 0 ∷ [])) (says 2 thrice 0 96) ∷
    case 0 thrice (coarsen (replicate 5 1)) (says 2 thrice 0 96) ∷
    case 7 odd_last (refine (0 ∷ 0 ∷ 1 ∷ [])) (says 8 odd_last 0 129) ∷
    case 7 odd_last (quarter (0 ∷ 0 ∷ 1 ∷ [])) (says 8 odd_last 0 129) ∷
    within 4 2048 4 S (refine (0 ∷ 1 ∷ [])) (says 9 S 0 128) ∷
    within 4 2048 4 S (quarter (0 ∷ 1 ∷ [])) (says 9 S 0 128) ∷
    case 8 clashing check (says 10 clashing 0 256) ∷
    []

pub culprit-meshes : map computed culprit_cases ≡ map (λ c. c.expected) culprit_cases
unfolding total twice_area lowest lowest_from first_outside first_misnamed first_repeat first_flat first_unused first_clash fault_of refusal compatible none_left parted_by apart first_crowded first_overlap uncrowded disjoint closure split_edges split_at split refined pairs span G1-4 good taken without coarsened good_nodes pass restored culprit_of check_no refine_no coarsen_no checks refines coarsens restores
culprit-meshes = refl
