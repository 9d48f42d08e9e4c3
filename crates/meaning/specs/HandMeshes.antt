-- Document 01, 'Meshes to check by hand', cases 1 to 10: rows of one list, under one claim. Assumes nothing.
use Rattle.std.specs.Prelude.{◌≡◌, refl, List, [], ◌∷◌, ◌++◌, map, replicate}
use Rattle.lists.specs.Search.{lowest, lowest_from}
use Rattle.meaning.specs.Mesh.{Node, Mesh, tri, mesh, total, twice_area}
use Rattle.meaning.specs.Lawful.{refusal, compatible, fault_of, first_outside, first_misnamed, first_repeat, first_flat, first_unused, first_clash}
use Rattle.meaning.specs.Proper.{none_left, parted_by, apart, first_crowded, first_overlap, uncrowded, disjoint}
use Rattle.meaning.specs.Split.{closure, split_edges, split_at, split, refined}
use Rattle.meaning.specs.Good.{pairs, span, G1-4, good}
use Rattle.meaning.specs.Coarsen.{taken, without, coarsened, good_nodes, pass, restored}
use Rattle.meaning.specs.Calls.{culprit_of, check_no, refine_no, coarsen_no, checks, refines, coarsens, restores}
use Rattle.meaning.specs.HandCase.{Case, check, refine, coarsen, restore, computed, says, case, at}

abbrev pub square : List Node
square = at 0 0 ∷ at 8 0 ∷ at 8 8 ∷ at 0 8 ∷ []

abbrev pub S : Mesh
S = mesh square (tri 1 2 0 ∷ tri 3 0 2 ∷ [])

abbrev pub R : Mesh
R = mesh (at 0 0 ∷ at 16 0 ∷ at 0 16 ∷ at 4 4 ∷ []) (tri 0 1 3 ∷ tri 1 2 3 ∷ tri 2 0 3 ∷ [])

abbrev pub after2 : Mesh
after2 = mesh (square ++ at 4 4 ∷ []) (tri 4 1 2 ∷ tri 4 3 0 ∷ tri 4 0 1 ∷ tri 4 2 3 ∷ [])

abbrev pub after3 : Mesh
after3 = mesh (square ++ at 4 4 ∷ at 8 4 ∷ []) (tri 5 4 1 ∷ tri 4 3 0 ∷ tri 4 0 1 ∷ tri 4 2 3 ∷ tri 5 2 4 ∷ [])

abbrev pub after4 : Mesh
after4 =
    mesh (square ++ at 4 4 ∷ at 8 4 ∷ at 6 2 ∷ at 4 0 ∷ [])
    (tri 6 5 4 ∷ tri 4 3 0 ∷ tri 7 4 0 ∷ tri 4 2 3 ∷ tri 5 2 4 ∷ tri 6 1 5 ∷ tri 6 7 1 ∷ tri 6 4 7 ∷ [])

-- after 4, node 6 gone: 7 is 6 now
abbrev pub without6 : Mesh
without6 =
    mesh (square ++ at 4 4 ∷ at 8 4 ∷ at 4 0 ∷ [])
    (tri 5 4 1 ∷ tri 4 3 0 ∷ tri 6 4 0 ∷ tri 4 2 3 ∷ tri 5 2 4 ∷ tri 6 1 4 ∷ [])

abbrev pub after8 : Mesh
after8 =
    mesh (at 0 0 ∷ at 16 0 ∷ at 0 16 ∷ at 4 4 ∷ at 10 2 ∷ at 2 2 ∷ at 2 10 ∷ [])
    (tri 4 0 1 ∷ tri 6 1 2 ∷ tri 5 2 0 ∷ tri 5 4 3 ∷ tri 5 0 4 ∷ tri 4 6 3 ∷ tri 4 1 6 ∷ tri 6 5 3 ∷ tri 6 2 5 ∷ [])

abbrev pub unit : Mesh
unit = mesh (at 0 0 ∷ at 1 0 ∷ at 0 1 ∷ []) (tri 0 1 2 ∷ [])

-- what each case calls, and what must come out
abbrev pub hand_cases : List Case
hand_cases =
    -- 1. "S is compatible; total twice-area 128."
    case 4 S check (says 0 S 0 128) ∷
    -- 2. to 4. refining, row 0 marked each time
    case 4 S (refine (1 ∷ 0 ∷ [])) (says 0 after2 0 128) ∷
    case 4 after2 (refine (1 ∷ 0 ∷ 0 ∷ 0 ∷ [])) (says 0 after3 0 128) ∷
    case 4 after3 (refine (1 ∷ 0 ∷ 0 ∷ 0 ∷ 0 ∷ [])) (says 0 after4 0 128) ∷
    -- 5. "Restore after 4: 3 passes, removing 6, then 5 and 7, then 4"
    case 4 after4 restore (says 0 S 3 128) ∷
    case 4 after4 (coarsen (replicate 8 1)) (says 0 without6 0 128) ∷
    case 4 without6 (coarsen (replicate 7 1)) (says 0 after2 0 128) ∷
    case 4 after2 (coarsen (replicate 5 1)) (says 0 S 0 128) ∷
    -- 6. "After 3, coarsen node 4 only: nothing goes."
    case 4 after3 (coarsen (0 ∷ 0 ∷ 0 ∷ 0 ∷ 1 ∷ 0 ∷ [])) (says 0 after3 0 128) ∷
    -- 7. "R is not compatible: 10."
    case 4 R check (says 10 R 0 256) ∷
    -- 8. "R, mark row 0: nodes 4 (10,2), 5 (2,2), 6 (2,10); nine rows."
    case 4 R (refine (1 ∷ 0 ∷ 0 ∷ [])) (says 0 after8 0 256) ∷
    -- 9. "Restore after 8: 0 passes, three nodes left."
    case 4 after8 restore (says 0 after8 0 256) ∷
    -- 10. "marked 8, unmarked 0"
    case 3 unit (refine (1 ∷ [])) (says 8 unit 0 1) ∷
    case 3 unit (refine (0 ∷ [])) (says 0 unit 0 1) ∷
    []

pub hand-meshes : map computed hand_cases ≡ map (λ c. c.expected) hand_cases
unfolding total twice_area lowest lowest_from first_outside first_misnamed first_repeat first_flat first_unused first_clash fault_of refusal compatible none_left parted_by apart first_crowded first_overlap uncrowded disjoint closure split_edges split_at split refined pairs span G1-4 good taken without coarsened good_nodes pass restored culprit_of check_no refine_no coarsen_no checks refines coarsens restores
hand-meshes = refl
