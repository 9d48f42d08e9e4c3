-- W6 by hand: points inside, on a side, on a corner and outside, negative corrections, the far ends, and every reason to refuse. Rows of three lists,
-- each under one claim; what is expected was worked out from the words of 02. Assumes nothing.
use Rattle.std.specs.Prelude.{true, false, ◌≡◌, refl, List, [], ◌∷◌, ◌++◌, map, ℕ, ℤ, pos, negsuc, Option, Some, None}
use Rattle.lists.specs.Search.{lowest, lowest_from}
use Rattle.meaning.specs.declared.Told.{Told}
use Rattle.meaning.specs.Mesh.{Place, Node, Mesh, place, correction, node, tri, mesh, twice_area}
use Rattle.meaning.specs.Lawful.{refusal, fault_of, first_outside, first_misnamed, first_repeat, first_flat, first_unused}
use Rattle.meaning.specs.Rounding.{floor}
use Rattle.meaning.specs.Asking.{holds_point, weighted, weights, mean_in, correction_in, row_holding, correction_at}
use Rattle.meaning.specs.Calls.{culprit_of, ask_no, told, asks}
use Rattle.meaning.specs.HandCase.{at}
use Rattle.meaning.specs.HandMeshes.{square, S}

-- ---- rounding down

-- 7 / 2, −7 / 2, −6 / 2, −1 / 64, 0 / 5, −64 / 64
floors : floor (pos 7) (pos 2) ∷ floor (negsuc 6) (pos 2) ∷ floor (negsuc 5) (pos 2) ∷ floor (negsuc 0) (pos 64) ∷ floor (pos 0) (pos 5) ∷ floor (negsuc 63) (pos 64) ∷ []
    ≡ pos 3 ∷ negsuc 3 ∷ negsuc 2 ∷ negsuc 0 ∷ pos 0 ∷ negsuc 0 ∷ []
floors = refl

-- ---- meshes

-- the node at (a, b) that carries (c, d)
abbrev bears : ℤ → ℤ → ℤ → ℤ → Node
bears a b c d = node (place a b) (correction c d)

-- S with dx 10, −7, 3, 5 and dy at the ends of the range in turn
abbrev C : Mesh
C = mesh (bears (pos 0) (pos 0) (pos 10) (pos 32_767) ∷ bears (pos 8) (pos 0) (negsuc 6) (negsuc 32_767) ∷ bears (pos 8) (pos 8) (pos 3) (pos 32_767) ∷ bears (pos 0) (pos 8) (pos 5) (negsuc 32_767) ∷ []) S.tris

-- the ends (−3, 0) and (1, 0) of 01's case 12, carrying −3 and 0
abbrev across : Mesh
across = mesh (bears (pos 0) (pos 4) (pos 100) (pos 0) ∷ bears (negsuc 2) (pos 0) (negsuc 2) (pos 3) ∷ bears (pos 1) (pos 0) (pos 0) (pos 0) ∷ []) (tri 0 1 2 ∷ [])

-- three corners of the square that nodes may stand in
abbrev widest : Mesh
widest =
    mesh (bears (negsuc 1_048_575) (negsuc 1_048_575) (pos 32_767) (pos 0) ∷ bears (pos 1_048_576) (negsuc 1_048_575) (negsuc 32_767) (pos 1) ∷ bears (negsuc 1_048_575) (pos 1_048_576) (negsuc 32_767) (pos 0) ∷ []) (tri 0 1 2 ∷ [])

-- S, and a triangle of its own nodes across it: rows 0 and 2 both hold (3, 2), and 01 takes that
abbrev crossing : Mesh
crossing =
    mesh (square ++ bears (pos 3) (pos 1) (pos 5) (negsuc 4) ∷ bears (pos 5) (pos 3) (pos 5) (negsuc 4) ∷ bears (pos 2) (pos 4) (pos 5) (negsuc 4) ∷ []) (tri 1 2 0 ∷ tri 3 0 2 ∷ tri 4 5 6 ∷ [])

-- refused: node 2 carries too much; row 1 names a node that is not there; repeats an edge; all in a line; node 4 is in no row
abbrev heavy : Mesh
heavy = mesh (at 0 0 ∷ at 8 0 ∷ bears (pos 8) (pos 8) (pos 0) (pos 32_768) ∷ at 0 8 ∷ []) S.tris

abbrev misnamed : Mesh
misnamed = mesh C.nodes (tri 1 2 0 ∷ tri 3 0 4 ∷ [])

abbrev repeated : Mesh
repeated = mesh C.nodes (tri 1 2 0 ∷ tri 2 0 3 ∷ [])

abbrev flat : Mesh
flat = mesh (at 0 0 ∷ at 4 4 ∷ at 8 8 ∷ []) (tri 0 1 2 ∷ [])

abbrev loner : Mesh
loner = mesh (C.nodes ++ at 9 9 ∷ []) C.tris

-- ---- a point, the row that holds it, and what is told

pub record AskCase : Type 0 where
  pub given : Mesh
  pub point : Place
  pub row : Option ℕ
  pub says : Told

abbrev asked : Mesh → ℤ → ℤ → Option ℕ → Told → AskCase
asked m x y i k = record { given = m; point = place x y; row = i; says = k }

-- what the definitions give, and what must come out
abbrev computed : AskCase → Option ℕ × Told
computed c = (row_holding c.given c.point, asks c.given c.point)

abbrev expected : AskCase → Option ℕ × Told
expected c = (c.row, c.says)

-- number 0 and the correction; or number k and the culprit
abbrev tells : ℤ → ℤ → Told
tells dx dy = told 0 0 (correction dx dy)

abbrev refuses : ℕ → ℕ → Told
refuses k z = told k z (correction (pos 0) (pos 0))

abbrev pub ask_cases : List AskCase
ask_cases =
    -- inside: weights 32, 16, 16: −16/64 and −32/64; weights 32, 16, 16 in row 1: 368/64 and −32/64
    asked C (pos 6) (pos 2) (Some 0) (tells (negsuc 0) (negsuc 0)) ∷
    asked C (pos 2) (pos 6) (Some 1) (tells (pos 5) (negsuc 0)) ∷
    -- on a side of one row: −4/2 and −1/2; on the side of both: 13/2 and 65,534/2
    asked C (pos 8) (pos 4) (Some 0) (tells (negsuc 1) (negsuc 0)) ∷
    asked C (pos 4) (pos 4) (Some 0) (tells (pos 6) (pos 32_767)) ∷
    -- on a corner, of one row, of both, of the other: what the node carries
    asked C (pos 8) (pos 0) (Some 0) (tells (negsuc 6) (negsuc 32_767)) ∷
    asked C (pos 8) (pos 8) (Some 0) (tells (pos 3) (pos 32_767)) ∷
    asked C (pos 0) (pos 8) (Some 1) (tells (pos 5) (negsuc 32_767)) ∷
    -- outside, by one
    asked C (pos 9) (pos 4) None (refuses 14 0) ∷
    asked C (negsuc 0) (pos 0) None (refuses 14 0) ∷
    asked C (pos 4) (pos 9) None (refuses 14 0) ∷
    -- −3/2 is rounded down, to −2; 3/2 to 1; −9/4 and −3/4
    asked across (negsuc 0) (pos 0) (Some 0) (tells (negsuc 1) (pos 1)) ∷
    asked across (negsuc 1) (pos 0) (Some 0) (tells (negsuc 2) (pos 2)) ∷
    asked across (pos 0) (pos 0) (Some 0) (tells (negsuc 0) (pos 0)) ∷
    -- "the lowest row"
    asked crossing (pos 3) (pos 2) (Some 0) (tells (pos 0) (pos 0)) ∷
    []

-- as far as a point can be, and the longest side: its middle, a step beside that, the middle of a short one, one step outside
abbrev pub far_cases : List AskCase
far_cases =
    asked C (negsuc 2_147_483_647) (pos 2_147_483_647) None (refuses 14 0) ∷
    asked C (pos 2_147_483_647) (negsuc 2_147_483_647) None (refuses 14 0) ∷
    asked widest (pos 0) (pos 0) (Some 0) (tells (negsuc 32_767) (pos 0)) ∷
    asked widest (pos 1) (negsuc 0) (Some 0) (tells (negsuc 32_767) (pos 0)) ∷
    asked widest (negsuc 1_048_575) (pos 0) (Some 0) (tells (negsuc 0) (pos 0)) ∷
    asked widest (pos 1) (pos 0) None (refuses 14 0) ∷
    []

abbrev pub refused_cases : List AskCase
refused_cases =
    -- no triangle holds a point
    asked (mesh [] []) (pos 0) (pos 0) None (refuses 14 0) ∷
    -- 3 to 7 come first, whether a row holds the point or none does
    asked heavy (pos 6) (pos 2) (Some 0) (refuses 3 2) ∷
    asked misnamed (pos 9) (pos 9) None (refuses 4 1) ∷
    asked repeated (pos 6) (pos 2) (Some 0) (refuses 5 1) ∷
    asked flat (pos 4) (pos 4) (Some 0) (refuses 6 0) ∷
    asked flat (pos 4) (pos 5) None (refuses 6 0) ∷
    asked loner (pos 9) (pos 9) None (refuses 7 4) ∷
    []

pub asking-meshes : map computed ask_cases ≡ map expected ask_cases
unfolding lowest lowest_from twice_area first_outside first_misnamed first_repeat first_flat first_unused fault_of refusal culprit_of weighted weights mean_in row_holding correction_at ask_no asks
asking-meshes = refl

pub asking-far : map computed far_cases ≡ map expected far_cases
unfolding lowest lowest_from twice_area first_outside first_misnamed first_repeat first_flat first_unused fault_of refusal culprit_of weighted weights mean_in row_holding correction_at ask_no asks
asking-far = refl

pub asking-refused : map computed refused_cases ≡ map expected refused_cases
unfolding lowest lowest_from twice_area first_outside first_misnamed first_repeat first_flat first_unused fault_of refusal culprit_of weighted weights mean_in row_holding correction_at ask_no asks
asking-refused = refl

-- rows 0 and 2 of `crossing` hold (3, 2) and would tell (0, 0) and (5, −5): which row answers matters on a mesh that W7 will refuse
pub rows-may-differ :
    (map (holds_point crossing (place (pos 3) (pos 2))) crossing.tris ≡ true ∷ false ∷ true ∷ []) ×
    (map (correction_in crossing (place (pos 3) (pos 2))) (tri 1 2 0 ∷ tri 4 5 6 ∷ []) ≡ correction (pos 0) (pos 0) ∷ correction (pos 5) (negsuc 4) ∷ [])
unfolding twice_area weighted weights mean_in
rows-may-differ = (refl, refl)
