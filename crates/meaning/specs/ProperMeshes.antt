-- W7 by hand: the supplier's mesh, nodes at one place, triangles that overlap, and every order of the numbers. Rows of six lists, each under one
-- claim; what is expected was worked out from the words of 02. Assumes nothing.
use Rattle.std.specs.Prelude.{◌≡◌, refl, List, [], ◌∷◌, ◌++◌, map, ℕ, pos, negsuc, Option, Some, None}
use Rattle.lists.specs.Search.{lowest, lowest_from}
use Rattle.meaning.specs.Mesh.{Node, Mesh, tri, mesh, total, twice_area}
use Rattle.meaning.specs.Lawful.{refusal, compatible, fault_of, first_outside, first_misnamed, first_repeat, first_flat, first_unused, first_clash}
use Rattle.meaning.specs.Proper.{none_left, parted_by, apart, first_crowded, first_overlap, uncrowded, disjoint}
use Rattle.meaning.specs.Split.{closure, split_edges, split_at, split, refined}
use Rattle.meaning.specs.Good.{pairs, span, G1-4, good}
use Rattle.meaning.specs.Coarsen.{taken, without, coarsened, good_nodes, pass, restored}
use Rattle.meaning.specs.Calls.{culprit_of, check_no, refine_no, coarsen_no, checks, refines, coarsens, restores}
use Rattle.meaning.specs.HandCase.{check, refine, coarsen, restore, says, at, spot}
use Rattle.meaning.specs.HandCase as Hand
use Rattle.meaning.specs.HandMeshes.{square, S, R, after4}

-- ---- meshes that 01 takes

-- "one side of an edge had a middle node and the other had none": S with node 4 on 0–2, above the diagonal only
abbrev pub cracked : Mesh
cracked = mesh (square ++ at 4 4 ∷ []) (tri 1 2 0 ∷ tri 4 3 0 ∷ tri 4 2 3 ∷ [])

-- row 0 of it split: nodes 4 and 5 stand at one place
abbrev mended : Mesh
mended = mesh (square ++ at 4 4 ∷ at 4 4 ∷ []) (tri 5 1 2 ∷ tri 4 3 0 ∷ tri 4 2 3 ∷ tri 5 0 1 ∷ [])

-- S, and a triangle that meets it in the place of node 2, by a node of its own
abbrev pub doubled : Mesh
doubled = mesh (square ++ at 8 8 ∷ at 16 8 ∷ at 8 16 ∷ []) (tri 1 2 0 ∷ tri 3 0 2 ∷ tri 4 5 6 ∷ [])

-- the same by node 2 itself: they touch, and that is all
abbrev pub pinched : Mesh
pinched = mesh (square ++ at 16 8 ∷ at 8 16 ∷ []) (tri 1 2 0 ∷ tri 3 0 2 ∷ tri 2 4 5 ∷ [])

-- S, and a triangle that leans on its edge 1–2 from outside
abbrev leaning : Mesh
leaning = mesh (square ++ at 8 4 ∷ at 12 2 ∷ at 12 6 ∷ []) (tri 1 2 0 ∷ tri 3 0 2 ∷ tri 4 5 6 ∷ [])

-- S, and a triangle of its own nodes across the diagonal: no node strictly inside an edge
abbrev pub across : Mesh
across = mesh (square ++ at 3 1 ∷ at 5 3 ∷ at 2 4 ∷ []) (tri 1 2 0 ∷ tri 3 0 2 ∷ tri 4 5 6 ∷ [])

-- two triangles that share interior points, though no corner of one is in the other
abbrev pub starred : Mesh
starred = mesh (at 0 2 ∷ at 6 2 ∷ at 3 8 ∷ at 3 0 ∷ at 6 6 ∷ at 0 6 ∷ []) (tri 0 1 2 ∷ tri 3 4 5 ∷ [])

-- one wholly inside the other
abbrev nested : Mesh
nested = mesh (at 0 0 ∷ at 16 0 ∷ at 0 16 ∷ at 2 2 ∷ at 4 2 ∷ at 2 4 ∷ []) (tri 0 1 2 ∷ tri 3 4 5 ∷ [])

-- the sheet as wide as nodes may stand, its diagonal with a node above only: on it, one step above it, one step below it
abbrev corners : List Node
corners = spot (negsuc 1_048_575) (negsuc 1_048_575) ∷ spot (pos 1_048_576) (negsuc 1_048_575) ∷ spot (pos 1_048_576) (pos 1_048_576) ∷ spot (negsuc 1_048_575) (pos 1_048_576) ∷ []

abbrev widest : Node → Mesh
widest k = mesh (corners ++ k ∷ []) (tri 1 2 0 ∷ tri 4 3 0 ∷ tri 4 2 3 ∷ [])

-- two reasons at once: 7 and 11; 11 and 12; 11 and 10; 12 and 10
abbrev lonely : Mesh
lonely = mesh (square ++ at 4 4 ∷ at 0 0 ∷ []) cracked.tris

abbrev crossed : Mesh
crossed = mesh (square ++ at 4 4 ∷ at 3 1 ∷ at 5 3 ∷ at 2 4 ∷ []) (tri 1 2 0 ∷ tri 4 3 0 ∷ tri 4 2 3 ∷ tri 5 6 7 ∷ [])

abbrev cracked_r : Mesh
cracked_r = mesh (at 0 0 ∷ at 16 0 ∷ at 0 16 ∷ at 4 4 ∷ at 2 2 ∷ []) (tri 0 1 3 ∷ tri 1 2 3 ∷ tri 2 0 4 ∷ tri 2 4 3 ∷ [])

abbrev covered_r : Mesh
covered_r = mesh (at 0 0 ∷ at 16 0 ∷ at 0 16 ∷ at 4 4 ∷ at 5 1 ∷ at 7 1 ∷ at 6 2 ∷ []) (tri 0 1 3 ∷ tri 1 2 3 ∷ tri 2 0 3 ∷ tri 4 5 6 ∷ [])

-- ---- the lowest node and the lowest row at fault, and the number

pub record Case : Type 0 where
  pub given : Mesh
  pub node : Option ℕ
  pub row : Option ℕ
  pub number : ℕ

abbrev case : Mesh → Option ℕ → Option ℕ → ℕ → Case
case m f g k = record { given = m; node = f; row = g; number = k }

-- what the definitions give, and what must come out
abbrev computed : Case → Option ℕ × Option ℕ × ℕ
computed c = (first_crowded c.given, first_overlap c.given, check_no c.given)

abbrev expected : Case → Option ℕ × Option ℕ × ℕ
expected c = (c.node, c.row, c.number)

abbrev sound_cases : List Case
sound_cases =
    case (mesh [] []) None None 0 ∷
    case S None None 0 ∷
    case pinched None None 0 ∷
    case after4 None None 10 ∷
    case R None None 10 ∷
    []

abbrev crowded_cases : List Case
crowded_cases =
    case cracked (Some 4) None 11 ∷
    case mended (Some 5) None 11 ∷
    case doubled (Some 4) None 11 ∷
    case leaning (Some 4) None 11 ∷
    []

abbrev overlapping_cases : List Case
overlapping_cases =
    case across None (Some 2) 12 ∷
    case starred None (Some 1) 12 ∷
    case nested None (Some 1) 12 ∷
    []

-- at the ends of the range
abbrev widest_cases : List Case
widest_cases =
    case (widest (spot (pos 0) (pos 0))) (Some 4) None 11 ∷
    case (widest (spot (negsuc 0) (pos 0))) None None 0 ∷
    case (widest (spot (pos 1) (pos 0))) None (Some 1) 12 ∷
    []

-- "in the order 7, 11, 12, 10"
abbrev order_cases : List Case
order_cases =
    case lonely (Some 4) None 7 ∷
    case crossed (Some 4) (Some 3) 11 ∷
    case cracked_r (Some 4) None 11 ∷
    case covered_r None (Some 3) 12 ∷
    []

abbrev pub proper_cases : List Case
proper_cases = sound_cases ++ crowded_cases ++ overlapping_cases ++ widest_cases ++ order_cases

pub sound-meshes : map computed sound_cases ≡ map expected sound_cases
unfolding lowest lowest_from twice_area first_outside first_misnamed first_repeat first_flat first_unused first_clash fault_of refusal compatible none_left parted_by apart first_crowded first_overlap uncrowded disjoint check_no
sound-meshes = refl

pub crowded-meshes : map computed crowded_cases ≡ map expected crowded_cases
unfolding lowest lowest_from twice_area first_outside first_misnamed first_repeat first_flat first_unused first_clash fault_of refusal compatible none_left parted_by apart first_crowded first_overlap uncrowded disjoint check_no
crowded-meshes = refl

pub overlapping-meshes : map computed overlapping_cases ≡ map expected overlapping_cases
unfolding lowest lowest_from twice_area first_outside first_misnamed first_repeat first_flat first_unused first_clash fault_of refusal compatible none_left parted_by apart first_crowded first_overlap uncrowded disjoint check_no
overlapping-meshes = refl

pub widest-meshes : map computed widest_cases ≡ map expected widest_cases
unfolding lowest lowest_from twice_area first_outside first_misnamed first_repeat first_flat first_unused first_clash fault_of refusal compatible none_left parted_by apart first_crowded first_overlap uncrowded disjoint check_no
widest-meshes = refl

pub order-meshes : map computed order_cases ≡ map expected order_cases
unfolding lowest lowest_from twice_area first_outside first_misnamed first_repeat first_flat first_unused first_clash fault_of refusal compatible none_left parted_by apart first_crowded first_overlap uncrowded disjoint check_no
order-meshes = refl

-- ---- calls: the check names no culprit with 11 and 12; "Refine and coarsen don't repeat this."

abbrev pub cracked_cases : List Hand.Case
cracked_cases =
    Hand.case 5 cracked check (says 11 cracked 0 128) ∷
    Hand.case 7 across check (says 12 across 0 136) ∷
    Hand.case 5 cracked (refine (1 ∷ 0 ∷ 0 ∷ [])) (says 0 mended 0 128) ∷
    Hand.case 5 mended (coarsen (0 ∷ 0 ∷ 0 ∷ 0 ∷ 0 ∷ 1 ∷ [])) (says 0 cracked 0 128) ∷
    Hand.case 5 mended restore (says 0 cracked 1 128) ∷
    Hand.case 7 across restore (says 0 across 0 136) ∷
    []

pub cracked-meshes : map Hand.computed cracked_cases ≡ map (λ c. c.expected) cracked_cases
unfolding total twice_area lowest lowest_from first_outside first_misnamed first_repeat first_flat first_unused first_clash fault_of refusal compatible none_left parted_by apart first_crowded first_overlap uncrowded disjoint closure split_edges split_at split refined pairs span G1-4 good taken without coarsened good_nodes pass restored culprit_of check_no refine_no coarsen_no checks refines coarsens restores
cracked-meshes = refl
