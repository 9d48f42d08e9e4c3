-- Cases 11 and 12 of document 01, and meshes of our own: each of G1 to G5 and n0 has a row that its loss would change, and each
-- of the numbers 2 to 9 a row that draws it alone. Rows of one list, under one claim. Assumes nothing.
use Rattle.std.specs.Prelude.{◌≡◌, refl, List, [], ◌∷◌, ◌++◌, map, ℕ, pos, negsuc}
use Rattle.lists.specs.Search.{lowest, lowest_from}
use Rattle.meaning.specs.Mesh.{Node, Mesh, tri, mesh, total, twice_area}
use Rattle.meaning.specs.Lawful.{refusal, compatible, fault_of, fault, first_outside, first_misnamed, first_repeat, first_flat, first_unused, first_clash}
use Rattle.meaning.specs.Proper.{none_left, parted_by, apart, first_crowded, first_overlap, uncrowded, disjoint}
use Rattle.meaning.specs.Split.{closure, split_edges, split_at, split, refined}
use Rattle.meaning.specs.Good.{pairs, span, G1-4, good}
use Rattle.meaning.specs.Coarsen.{taken, without, coarsened, good_nodes, pass, restored}
use Rattle.meaning.specs.Calls.{culprit_of, check_no, refine_no, coarsen_no, checks, refines, coarsens, restores}
use Rattle.meaning.specs.HandCase.{Case, check, refine, coarsen, restore, computed, says, blames, case, within, at, spot}
use Rattle.meaning.specs.HandMeshes.{square, S, after2}

-- 12: the ends (−3,0) and (1,0), and the midpoint (−1,0)
abbrev across : Mesh
across = mesh (at 0 4 ∷ spot (negsuc 2) (pos 0) ∷ at 1 0 ∷ []) (tri 0 1 2 ∷ [])

abbrev crossed : Mesh
crossed = mesh (at 0 4 ∷ spot (negsuc 2) (pos 0) ∷ at 1 0 ∷ spot (negsuc 0) (pos 0) ∷ []) (tri 3 0 1 ∷ tri 3 2 0 ∷ [])

-- 12: a node at x = k
abbrev reaching : ℕ → Mesh
reaching k = mesh (at 0 0 ∷ at k 0 ∷ at 0 1 ∷ []) (tri 0 1 2 ∷ [])

-- ---- stay as they are, for one reason each: node 4 would go but for ..

-- .. G1: it is not the newest vertex of the last row
abbrev older : Mesh
older = mesh (at 0 4 ∷ at 8 4 ∷ at 4 8 ∷ at 4 0 ∷ at 4 4 ∷ []) (tri 4 2 0 ∷ tri 4 1 2 ∷ tri 3 4 0 ∷ [])

-- .. G1: it is the newest vertex of 5 rows
abbrev five : Mesh
five = mesh (at 0 4 ∷ at 8 4 ∷ at 4 8 ∷ at 0 0 ∷ at 4 4 ∷ at 8 0 ∷ []) (tri 4 2 0 ∷ tri 4 1 2 ∷ tri 4 0 3 ∷ tri 4 3 5 ∷ tri 4 5 1 ∷ [])

-- .. G2: the lowest row not yet used is (4,2,3), which does not end in c = 0
abbrev turned : Mesh
turned = mesh (square ++ at 4 4 ∷ []) (tri 4 1 2 ∷ tri 4 0 1 ∷ tri 4 2 3 ∷ tri 4 3 0 ∷ [])

-- .. G3: it stands beside the midpoint
abbrev moved : Mesh
moved = mesh (square ++ at 4 5 ∷ []) (tri 4 1 2 ∷ tri 4 3 0 ∷ tri 4 0 1 ∷ tri 4 2 3 ∷ [])

-- .. G4: the row below holds the edge 0–1, from 1 to 0; and the row above holds it, from 0 to 1
abbrev cracked : Mesh
cracked = mesh (at 0 4 ∷ at 8 4 ∷ at 4 8 ∷ at 4 0 ∷ at 4 4 ∷ []) (tri 4 2 0 ∷ tri 4 1 2 ∷ tri 3 1 0 ∷ [])

abbrev covered : Mesh
covered = mesh (at 0 4 ∷ at 8 4 ∷ at 4 8 ∷ at 4 6 ∷ at 4 4 ∷ []) (tri 4 2 0 ∷ tri 4 1 2 ∷ tri 3 0 1 ∷ [])

-- .. G5: node 5 stands there too, with the same pair in the other order
abbrev doubled : Mesh
doubled = mesh (square ++ at 4 4 ∷ at 4 4 ∷ []) (tri 4 1 2 ∷ tri 5 3 0 ∷ tri 4 0 1 ∷ tri 5 2 3 ∷ [])

-- with n0 = 5 node 4 is no rival of node 5
abbrev halved : Mesh
halved = mesh (square ++ at 4 4 ∷ []) (tri 4 1 2 ∷ tri 3 0 2 ∷ tri 4 0 1 ∷ [])

-- two good nodes in one mesh; the marks choose
abbrev strip : Mesh
strip = mesh (at 0 0 ∷ at 8 0 ∷ at 0 8 ∷ at 8 8 ∷ at 4 0 ∷ at 4 8 ∷ []) (tri 4 2 0 ∷ tri 5 1 3 ∷ tri 4 1 2 ∷ tri 5 2 1 ∷ [])

abbrev stripped : Mesh
stripped = mesh (at 0 0 ∷ at 8 0 ∷ at 0 8 ∷ at 8 8 ∷ at 4 0 ∷ []) (tri 4 2 0 ∷ tri 1 3 2 ∷ tri 4 1 2 ∷ [])

-- ---- the four cuts, father by father

abbrev pub wings : List Node
wings = at 0 0 ∷ at 16 0 ∷ at 0 16 ∷ spot (pos 8) (negsuc 7) ∷ spot (negsuc 7) (pos 8) ∷ []

-- row 0 with a neighbour on p–q and one on r–p, each with that side as its refinement edge
abbrev pub winged : Mesh
winged = mesh wings (tri 0 1 2 ∷ tri 3 1 0 ∷ tri 4 0 2 ∷ [])

abbrev pub cut-m : Mesh
cut-m = mesh (wings ++ at 8 8 ∷ []) (tri 5 0 1 ∷ tri 3 1 0 ∷ tri 4 0 2 ∷ tri 5 2 0 ∷ [])

abbrev pub cut-mu : Mesh
cut-mu = mesh (wings ++ at 8 8 ∷ at 8 0 ∷ []) (tri 6 5 0 ∷ tri 6 3 1 ∷ tri 4 0 2 ∷ tri 5 2 0 ∷ tri 6 1 5 ∷ tri 6 0 3 ∷ [])

abbrev pub cut-mv : Mesh
cut-mv = mesh (wings ++ at 8 8 ∷ at 0 8 ∷ []) (tri 5 0 1 ∷ tri 3 1 0 ∷ tri 6 4 0 ∷ tri 6 5 2 ∷ tri 6 0 5 ∷ tri 6 2 4 ∷ [])

abbrev pub cut_all : Mesh
cut_all =
    mesh (wings ++ at 8 8 ∷ at 8 0 ∷ at 0 8 ∷ [])
    (tri 6 5 0 ∷ tri 6 3 1 ∷ tri 7 4 0 ∷ tri 7 5 2 ∷ tri 6 1 5 ∷ tri 7 0 5 ∷ tri 6 0 3 ∷ tri 7 2 4 ∷ [])

-- ---- drawing one number

abbrev pub named : ℕ → ℕ → ℕ → Mesh
named a b c = mesh (at 0 0 ∷ at 8 0 ∷ at 0 8 ∷ []) (tri 0 1 2 ∷ tri a b c ∷ [])

abbrev straight : Mesh
straight = mesh (at 0 0 ∷ at 4 4 ∷ at 8 8 ∷ []) (tri 0 1 2 ∷ [])

abbrev lone : Mesh
lone = mesh (at 0 0 ∷ at 8 0 ∷ at 0 8 ∷ at 9 9 ∷ []) (tri 0 1 2 ∷ [])

abbrev pub empty : Mesh
empty = mesh [] []

abbrev pub own_cases : List Case
own_cases =
    -- 11. "S with NC = 4, row 0 marked: 9. No marks: 0, S unchanged."
    within 4 2048 4 S (refine (1 ∷ 0 ∷ [])) (says 9 S 0 128) ∷
    within 4 2048 4 S (refine (0 ∷ 0 ∷ [])) (says 0 S 0 128) ∷
    -- 12. "Ends (−3,0) and (1,0): midpoint (−1,0). x = 1,048,576 passes; 1,048,577 gives 3."
    case 3 across (refine (1 ∷ [])) (says 0 crossed 0 16) ∷
    case 3 (reaching 1_048_576) check (says 0 (reaching 1_048_576) 0 1_048_576) ∷
    case 3 (reaching 1_048_577) check (blames 3 1 (reaching 1_048_577) (pos 1_048_577)) ∷
    -- the four cuts
    case 5 winged (refine (1 ∷ 0 ∷ 0 ∷ [])) (says 0 cut-m 0 512) ∷
    case 5 winged (refine (0 ∷ 1 ∷ 0 ∷ [])) (says 0 cut-mu 0 512) ∷
    case 5 winged (refine (0 ∷ 0 ∷ 1 ∷ [])) (says 0 cut-mv 0 512) ∷
    case 5 winged (refine (0 ∷ 1 ∷ 1 ∷ [])) (says 0 cut_all 0 512) ∷
    case 5 cut_all restore (says 0 winged 2 512) ∷
    -- G1 to G5 and n0
    case 4 older restore (says 0 older 0 48) ∷
    case 4 five restore (says 0 five 0 96) ∷
    case 4 turned restore (says 0 turned 0 128) ∷
    case 4 moved restore (says 0 moved 0 128) ∷
    case 4 cracked restore (says 0 cracked 0 64) ∷
    case 4 covered restore (says 0 covered 0 48) ∷
    case 4 doubled restore (says 0 doubled 0 128) ∷
    case 5 doubled restore (says 0 halved 1 128) ∷
    case 5 after2 restore (says 0 after2 0 128) ∷
    case 4 strip (coarsen (1 ∷ 1 ∷ 1 ∷ 1 ∷ 0 ∷ 1 ∷ [])) (says 0 stripped 0 128) ∷
    -- 2 to 9, each alone, and the lowest of several
    case 4 S (refine (1 ∷ [])) (says 2 S 0 128) ∷
    case 4 S (refine (1 ∷ 2 ∷ [])) (says 2 S 0 128) ∷
    case 4 S (coarsen (1 ∷ 0 ∷ [])) (says 2 S 0 128) ∷
    case 0 (named 0 2 3) check (blames 4 1 (named 0 2 3) (pos 64)) ∷
    []

pub own-meshes : map computed own_cases ≡ map (λ c. c.expected) own_cases
unfolding total twice_area lowest lowest_from first_outside first_misnamed first_repeat first_flat first_unused first_clash fault_of refusal compatible none_left parted_by apart first_crowded first_overlap uncrowded disjoint closure split_edges split_at split refined pairs span G1-4 good taken without coarsened good_nodes pass restored culprit_of check_no refine_no coarsen_no checks refines coarsens restores
own-meshes = refl

-- ---- the lowest node or row at fault

-- "5" names "the lowest triangle with a directed edge that a lower row already has"
abbrev pub faulty : List Mesh
faulty =
    S ∷ empty ∷ reaching 1_048_577 ∷ named 0 2 3 ∷ named 0 2 2 ∷ named 1 2 0 ∷ named 2 1 0 ∷ straight ∷ lone ∷ []

pub faults : map fault_of faulty ≡ fault 0 0 ∷ fault 0 0 ∷ fault 3 1 ∷ fault 4 1 ∷ fault 4 1 ∷ fault 5 1 ∷ fault 6 1 ∷ fault 6 0 ∷ fault 7 3 ∷ []
unfolding twice_area lowest lowest_from first_outside first_misnamed first_repeat first_flat first_unused fault_of
faults = refl
