-- W5 by hand: what the nodes carry after refining, setting, coarsening and restoring, and every reason to refuse a setting. Rows of one list, under
-- one claim; what is expected was worked out from the words of 02. Assumes nothing.
use Rattle.std.specs.Prelude.{◌≡◌, refl, List, [], ◌∷◌, ◌++◌, map, ℕ, ℤ, pos, negsuc, replicate}
use Rattle.lists.specs.Search.{lowest, lowest_from}
use Rattle.meaning.specs.Mesh.{Correction, Node, Mesh, place, correction, node, tri, mesh, total, twice_area}
use Rattle.meaning.specs.Lawful.{refusal, compatible, fault_of, first_outside, first_misnamed, first_repeat, first_flat, first_unused, first_clash}
use Rattle.meaning.specs.Proper.{none_left, parted_by, apart, first_crowded, first_overlap, uncrowded, disjoint}
use Rattle.meaning.specs.Split.{closure, split_edges, mean, split_at, split, refined}
use Rattle.meaning.specs.Good.{pairs, span, G1-4, good}
use Rattle.meaning.specs.Coarsen.{taken, without, coarsened, good_nodes, pass, restored}
use Rattle.meaning.specs.Setting.{corrected, set_fault}
use Rattle.meaning.specs.Calls.{culprit_of, check_no, refine_no, coarsen_no, checks, refines, coarsens, restores, sets}
use Rattle.meaning.specs.HandCase.{Case, check, refine, coarsen, restore, setting, computed, says, blames, case, at}
use Rattle.meaning.specs.HandMeshes.{S}

-- the node at (a, b) that carries (c, d)
abbrev bears : ℕ → ℕ → ℤ → ℤ → Node
bears a b c d = node (place (pos a) (pos b)) (correction c d)

-- ---- the mean

-- "rounded down (−3 and 0 give −2)", part by part, and both ends of the range
means-down :
    map (λ c. mean c (correction (pos 0) (negsuc 0))) (correction (negsuc 2) (pos 4) ∷ correction (pos 3) (pos 3) ∷ correction (negsuc 0) (negsuc 0) ∷ correction (negsuc 3) (negsuc 3) ∷ []) ≡
    correction (negsuc 1) (pos 1) ∷ correction (pos 1) (pos 1) ∷ correction (negsuc 0) (negsuc 0) ∷ correction (negsuc 1) (negsuc 2) ∷ []
means-down = refl

ends-mean :
    mean (correction (pos 32_767) (negsuc 32_767)) (correction (pos 32_767) (negsuc 32_767)) ∷ mean (correction (pos 32_767) (negsuc 32_767)) (correction (negsuc 32_767) (pos 32_766)) ∷ [] ≡
    correction (pos 32_767) (negsuc 32_767) ∷ correction (negsuc 0) (negsuc 0) ∷ []
ends-mean = refl

-- ---- S with corrections, refined twice, a node set, refined again, restored

-- S; node 1 and node 3 at the ends of the range
abbrev corners_of : List Node
corners_of = bears 0 0 (negsuc 2) (pos 7) ∷ bears 8 0 (pos 32_767) (negsuc 32_767) ∷ bears 8 8 (pos 0) (negsuc 1) ∷ bears 0 8 (negsuc 32_767) (pos 32_767) ∷ []

abbrev C : Mesh
C = mesh corners_of S.tris

-- node 4 halves 0–2: (−3 + 0) / 2 and (7 − 2) / 2, rounded down
abbrev once : Mesh
once = mesh (corners_of ++ bears 4 4 (negsuc 1) (pos 2) ∷ []) (tri 4 1 2 ∷ tri 4 3 0 ∷ tri 4 0 1 ∷ tri 4 2 3 ∷ [])

-- node 5 halves 1–2: (32,767 + 0) / 2 and (−32,768 − 2) / 2
abbrev five : Node
five = bears 8 4 (pos 16_383) (negsuc 16_384)

abbrev twice : Mesh
twice = mesh (corners_of ++ bears 4 4 (negsuc 1) (pos 2) ∷ five ∷ []) (tri 5 4 1 ∷ tri 4 3 0 ∷ tri 4 0 1 ∷ tri 4 2 3 ∷ tri 5 2 4 ∷ [])

-- node 4 set to (9, −9): nothing else differs
abbrev set4 : Mesh
set4 = mesh (corners_of ++ bears 4 4 (pos 9) (negsuc 8) ∷ five ∷ []) twice.tris

-- node 6 halves 1–4, with what was set: (32,767 + 9) / 2 and (−32,768 − 9) / 2; node 7 halves 0–1: (−3 + 32,767) / 2 and (7 − 32,768) / 2
abbrev thrice : Mesh
thrice =
    mesh (corners_of ++ bears 4 4 (pos 9) (negsuc 8) ∷ five ∷ bears 6 2 (pos 16_388) (negsuc 16_388) ∷ bears 4 0 (pos 16_382) (negsuc 16_380) ∷ [])
    (tri 6 5 4 ∷ tri 4 3 0 ∷ tri 7 4 0 ∷ tri 4 2 3 ∷ tri 5 2 4 ∷ tri 6 1 5 ∷ tri 6 7 1 ∷ tri 6 4 7 ∷ [])

-- node 6 gone: 4, 5 and 7, which is 6 now, keep what they carry
abbrev without6 : Mesh
without6 =
    mesh (corners_of ++ bears 4 4 (pos 9) (negsuc 8) ∷ five ∷ bears 4 0 (pos 16_382) (negsuc 16_380) ∷ [])
    (tri 5 4 1 ∷ tri 4 3 0 ∷ tri 6 4 0 ∷ tri 4 2 3 ∷ tri 5 2 4 ∷ tri 6 1 4 ∷ [])

-- ---- one value at an end of its range, or past it

-- node 2 carries (c, d)
abbrev carrying : ℤ → ℤ → Mesh
carrying c d = mesh (at 0 0 ∷ at 8 0 ∷ bears 8 8 c d ∷ at 0 8 ∷ []) S.tris

-- node 1 by its correction, node 2 by its place, node 3 by both
abbrev astray : Mesh
astray =
    mesh (at 0 0 ∷ bears 8 0 (pos 0) (pos 32_768) ∷ at 1_048_577 8 ∷ bears 0 1_048_577 (negsuc 32_768) (pos 0) ∷ []) S.tris

-- ---- refused settings

abbrev small : Correction
small = correction (pos 5) (negsuc 5)

-- dx past its range, and dy
abbrev too_wide : Correction
too_wide = correction (pos 32_768) (pos 0)

abbrev too_low : Correction
too_low = correction (pos 0) (negsuc 32_768)

-- row 1 names a node that is not there; repeats an edge; is turned; node 4 is in no row
abbrev misnamed : Mesh
misnamed = mesh S.nodes (tri 1 2 0 ∷ tri 3 0 4 ∷ [])

abbrev repeated : Mesh
repeated = mesh S.nodes (tri 1 2 0 ∷ tri 2 0 3 ∷ [])

abbrev turned : Mesh
turned = mesh S.nodes (tri 1 2 0 ∷ tri 0 2 1 ∷ [])

abbrev loner : Mesh
loner = mesh (S.nodes ++ at 9 9 ∷ []) S.tris

abbrev pub setting_cases : List Case
setting_cases =
    -- "A new node starts with the mean of the two ends, rounded down"
    case 4 C check (says 0 C 0 128) ∷
    case 4 C (refine (1 ∷ 0 ∷ [])) (says 0 once 0 128) ∷
    case 4 once (refine (1 ∷ 0 ∷ 0 ∷ 0 ∷ [])) (says 0 twice 0 128) ∷
    -- "A job may set the correction of an added node"
    case 4 twice (setting 4 (correction (pos 9) (negsuc 8))) (says 0 set4 0 128) ∷
    case 4 set4 (refine (1 ∷ 0 ∷ 0 ∷ 0 ∷ 0 ∷ [])) (says 0 thrice 0 128) ∷
    -- "Good nodes are still judged by place only"; those that stay keep what they carry; "base rows come back with their corrections"
    case 4 thrice (coarsen (replicate 8 1)) (says 0 without6 0 128) ∷
    case 4 thrice restore (says 0 C 3 128) ∷
    case 4 set4 restore (says 0 C 2 128) ∷
    -- "from −32,768 to 32,767", stored
    case 4 (carrying (pos 32_767) (negsuc 32_767)) check (says 0 (carrying (pos 32_767) (negsuc 32_767)) 0 128) ∷
    case 4 (carrying (pos 32_768) (pos 0)) check (blames 3 2 (carrying (pos 32_768) (pos 0)) (pos 128)) ∷
    case 4 (carrying (pos 0) (pos 32_768)) restore (blames 3 2 (carrying (pos 0) (pos 32_768)) (pos 128)) ∷
    case 4 (carrying (negsuc 32_768) (pos 0)) (refine (0 ∷ 0 ∷ [])) (blames 3 2 (carrying (negsuc 32_768) (pos 0)) (pos 128)) ∷
    case 4 (carrying (pos 0) (negsuc 32_768)) (coarsen (replicate 4 0)) (blames 3 2 (carrying (pos 0) (negsuc 32_768)) (pos 128)) ∷
    case 0 astray check (blames 3 1 astray (pos 1_099_513_724_993)) ∷
    -- to be set: both ends, and past them. "the lowest node at fault in the table, else the node given"
    case 4 twice (setting 5 (correction (pos 32_767) (negsuc 32_767))) (says 0 (mesh (once.nodes ++ bears 8 4 (pos 32_767) (negsuc 32_767) ∷ []) twice.tris) 0 128) ∷
    case 4 twice (setting 5 too_wide) (blames 3 5 twice (pos 128)) ∷
    case 4 twice (setting 4 too_low) (blames 3 4 twice (pos 128)) ∷
    case 4 (carrying (pos 32_768) (pos 0)) (setting 3 too_low) (blames 3 2 (carrying (pos 32_768) (pos 0)) (pos 128)) ∷
    case 4 (carrying (pos 32_768) (pos 0)) (setting 2 small) (blames 3 2 (carrying (pos 32_768) (pos 0)) (pos 128)) ∷
    -- 3 for the value comes before 4 to 7, 13 and 15, and names a base node or a number past the counts too
    case 4 misnamed (setting 1 too_wide) (blames 3 1 misnamed (pos 64)) ∷
    case 4 loner (setting 7 too_low) (blames 3 7 loner (pos 128)) ∷
    case 4 twice (setting 0 too_wide) (blames 3 0 twice (pos 128)) ∷
    -- 4 to 7 come before 13 and 15
    case 4 misnamed (setting 1 small) (blames 4 1 misnamed (pos 64)) ∷
    case 4 repeated (setting 9 small) (blames 5 1 repeated (pos 0)) ∷
    case 4 turned (setting 0 small) (blames 6 1 turned (pos 0)) ∷
    case 4 loner (setting 4 small) (blames 7 4 loner (pos 128)) ∷
    -- "a base node is refused as 13, a number not below n as 15", and both name nobody
    case 4 twice (setting 3 small) (says 13 twice 0 128) ∷
    case 6 twice (setting 5 small) (says 13 twice 0 128) ∷
    case 4 twice (setting 6 small) (says 15 twice 0 128) ∷
    case 6 twice (setting 6 small) (says 15 twice 0 128) ∷
    case 0 twice (setting 0 (correction (negsuc 2) (pos 7))) (says 0 twice 0 128) ∷
    []

pub setting-meshes : map computed setting_cases ≡ map (λ c. c.expected) setting_cases
unfolding total twice_area lowest lowest_from first_outside first_misnamed first_repeat first_flat first_unused first_clash fault_of refusal compatible none_left parted_by apart first_crowded first_overlap uncrowded disjoint closure split_edges split_at split refined pairs span G1-4 good taken without coarsened good_nodes pass restored culprit_of check_no refine_no coarsen_no checks refines coarsens restores corrected set_fault sets
setting-meshes = refl
