-- By hand: what 11 and 12 and the even sums are needed for. A mesh that 01 takes and 12 refuses, whose answers depend on the order of its rows and are
-- not those of its nodes; a mesh whose answers change when it is refined, a sum of corrections being odd; and one whose answers do not. Assumes nothing.
use Rattle.std.specs.Prelude.{Bool, true, List, [], ◌∷◌, map, ◌≡◌, refl, ℕ, ℤ, pos, negsuc, Option, Some}
use Rattle.lists.specs.Lists.{All, nil, cons}
use Rattle.lists.specs.Search.{lowest, lowest_from}
use Rattle.meaning.specs.declared.Node.{Node}
use Rattle.meaning.specs.declared.Place.{Place}
use Rattle.meaning.specs.declared.Told.{Told}
use Rattle.meaning.specs.declared.Tri.{Tri}
use Rattle.meaning.specs.Mesh.{Mesh, place, correction, node, tri, mesh, node_of, at, twice_area}
use Rattle.meaning.specs.Lawful.{Lawful, refusal, fault_of, first_outside, first_misnamed, first_repeat, first_flat, first_unused}
use Rattle.meaning.specs.Split.{newest, closure, split_edges, split_at, split, started, refined}
use Rattle.meaning.specs.Tables.{Room}
use Rattle.meaning.specs.Proper.{Proper, none_left, parted_by, apart, first_crowded, first_overlap, uncrowded, disjoint}
use Rattle.meaning.specs.Asking.{weighted, weights, mean_in, row_holding, correction_at}
use Rattle.meaning.specs.Calls.{culprit_of, refine_no, ask_no, told, asks}
use Rattle.laws.specs.Lawful.{refusal-lawful}
use Rattle.proper.proofs.ProperLaw.{proper-exact}
use Rattle.points.specs.Refined.{EvenEnds}

-- the node at (a, b) that carries (c, d)
abbrev pub bears : ℤ → ℤ → ℤ → ℤ → Node
bears a b c d = node (place a b) (correction c d)

abbrev tells : ℤ → ℤ → Told
tells x y = told 0 0 (correction x y)

-- ---- 12

-- a triangle that carries (5, −5) inside one that carries nothing; the rows in either order
abbrev lapping : Tri → Tri → Mesh
lapping t u =
    mesh (bears (pos 0) (pos 0) (pos 0) (pos 0) ∷ bears (pos 8) (pos 0) (pos 0) (pos 0) ∷ bears (pos 0) (pos 8) (pos 0) (pos 0) ∷
    bears (pos 1) (pos 1) (pos 5) (negsuc 4) ∷ bears (pos 5) (pos 1) (pos 5) (negsuc 4) ∷ bears (pos 1) (pos 5) (pos 5) (negsuc 4) ∷ []) (t ∷ u ∷ [])

abbrev wide : Tri
wide = tri 0 1 2

abbrev narrow : Tri
narrow = tri 3 4 5

-- 3 to 7; whether no node is crowded; the lowest row that overlaps
abbrev judged : Mesh → ℕ × Bool × Option ℕ
judged m = (refusal m, uncrowded m, first_overlap m)

-- 12 alone refuses them
pub twelve-alone : map judged (lapping wide narrow ∷ lapping narrow wide ∷ []) ≡ (0, true, Some 1) ∷ (0, true, Some 1) ∷ []
unfolding lowest lowest_from twice_area first_outside first_misnamed first_repeat first_flat first_unused fault_of refusal none_left parted_by apart first_crowded first_overlap uncrowded
twelve-alone = refl

-- THE ORDER OF THE ROWS MATTERS THERE, at (2, 2),
pub order-matters : map (λ (m : Mesh). asks m (place (pos 2) (pos 2))) (lapping wide narrow ∷ lapping narrow wide ∷ []) ≡ tells (pos 0) (pos 0) ∷ tells (pos 5) (negsuc 4) ∷ []
unfolding lowest lowest_from twice_area first_outside first_misnamed first_repeat first_flat first_unused fault_of refusal culprit_of weighted weights mean_in row_holding correction_at ask_no asks
order-matters = refl

-- AND WHAT NODE 3 CARRIES IS NOT WHAT IS TOLD AT ITS PLACE.
pub node-not-told : ((node_of (lapping wide narrow) 3).correction ≡ correction (pos 5) (negsuc 4)) × (asks (lapping wide narrow) (at (lapping wide narrow) 3) ≡ tells (pos 0) (pos 0))
unfolding lowest lowest_from twice_area first_outside first_misnamed first_repeat first_flat first_unused fault_of refusal culprit_of weighted weights mean_in row_holding correction_at ask_no asks
node-not-told = (refl, refl)

-- ---- sums of corrections

-- one row; node 2 carries (dx, dy), and the refinement edge is that from node 1, which carries nothing
abbrev pub slope : ℤ → ℤ → Mesh
slope dx dy = mesh (bears (pos 0) (pos 6) (pos 0) (pos 0) ∷ bears (pos 0) (pos 0) (pos 0) (pos 0) ∷ bears (pos 6) (pos 0) dx dy ∷ []) (tri 0 1 2 ∷ [])

-- 3 and 0 have an odd sum, 6 and 0 an even one
abbrev odd : Mesh
odd = slope (pos 3) (pos 6)

-- 4 and 0, −2 and 0: even sums
abbrev pub smooth : Mesh
smooth = slope (pos 4) (negsuc 1)

abbrev pub cut : Mesh → Mesh
cut m = refined newest m (1 ∷ [])

abbrev pub room : Room
room = record { nodes = 4; rows = 2 }

-- on the edge that is cut at (3, 0), on the cut, beyond it, and outside
abbrev points : List Place
points = place (pos 4) (pos 0) ∷ place (pos 2) (pos 0) ∷ place (pos 3) (pos 0) ∷ place (pos 2) (pos 2) ∷ place (pos 3) (pos 3) ∷ place (pos 4) (pos 3) ∷ []

abbrev outside : Told
outside = told 14 0 (correction (pos 0) (pos 0))

-- dx is half the point's x, and dy the x; the new node, at (3, 0), is to carry (1, 3), the 1 rounded down from 3/2
pub odd-before : map (asks odd) points ≡ tells (pos 2) (pos 4) ∷ tells (pos 1) (pos 2) ∷ tells (pos 1) (pos 3) ∷ tells (pos 1) (pos 2) ∷ tells (pos 1) (pos 3) ∷ outside ∷ []
unfolding lowest lowest_from twice_area first_outside first_misnamed first_repeat first_flat first_unused fault_of refusal culprit_of weighted weights mean_in row_holding correction_at ask_no asks
odd-before = refl

-- AN ODD SUM: ANSWERS CHANGE, by rounding, though the refine is accepted.
pub odd-after : (refine_no newest room odd (1 ∷ []) ≡ 0) ×
    (map (asks (cut odd)) points ≡ tells (pos 1) (pos 4) ∷ tells (pos 0) (pos 2) ∷ tells (pos 1) (pos 3) ∷ tells (pos 0) (pos 2) ∷ tells (pos 1) (pos 3) ∷ outside ∷ [])
unfolding lowest lowest_from twice_area first_outside first_misnamed first_repeat first_flat first_unused fault_of refusal closure split_edges split_at split refined culprit_of weighted weights mean_in row_holding correction_at refine_no ask_no asks
odd-after = (refl, refl)

-- EVEN SUMS: NO ANSWER CHANGES,
abbrev even-told : List Told
even-told = tells (pos 2) (negsuc 1) ∷ tells (pos 1) (negsuc 0) ∷ tells (pos 2) (negsuc 0) ∷ tells (pos 1) (negsuc 0) ∷ tells (pos 2) (negsuc 0) ∷ outside ∷ []

pub even-before : map (asks smooth) points ≡ even-told
unfolding lowest lowest_from twice_area first_outside first_misnamed first_repeat first_flat first_unused fault_of refusal culprit_of weighted weights mean_in row_holding correction_at ask_no asks
even-before = refl

pub even-after : map (asks (cut smooth)) points ≡ even-told
unfolding lowest lowest_from twice_area first_outside first_misnamed first_repeat first_flat first_unused fault_of refusal closure split_edges split_at split refined culprit_of weighted weights mean_in row_holding correction_at ask_no asks
even-after = refl

-- NOR AT ANY OTHER POINT: the premises of `refined-asked` hold (proofs/PointMeshesKept.antt).
pub even-lawful : Lawful smooth
unfolding lowest lowest_from twice_area first_outside first_misnamed first_repeat first_flat first_unused fault_of refusal
even-lawful = refusal-lawful smooth refl

pub even-proper : Proper smooth
unfolding lowest lowest_from none_left parted_by apart first_crowded first_overlap uncrowded disjoint
even-proper = (proper-exact smooth even-lawful).1 (refl, refl)

pub even-accepted : refine_no newest room smooth (1 ∷ []) ≡ 0
unfolding lowest lowest_from twice_area first_outside first_misnamed first_repeat first_flat first_unused fault_of refusal closure split_edges split_at split refined refine_no
even-accepted = refl

pub even-ends : All (EvenEnds smooth) (split_edges smooth (started newest.starts (1 ∷ []) (tri 0 1 2 ∷ [])))
unfolding closure split_edges
even-ends = cons (record { even-dx = refl; even-dy = refl }) nil
