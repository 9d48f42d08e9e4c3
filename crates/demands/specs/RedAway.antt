-- W8: "Demand 3 doesn't hold for a sequence with such a refinement": it cannot. One triangle, which the check admits; a red refine of it, which says 1 in the new field; then a
-- restore with the base's node count says 0, makes no pass and leaves all three added nodes, for none is the newest vertex of every row that holds it (G1). With nothing
-- marked, or refused, a red refine says 0 there, and restore ends with the base. Assumes nothing.
use Rattle.std.specs.Prelude.{List, [], ◌∷◌, ◌++◌, ◌≡◌, refl, ℕ, ℤ, pos, length, replicate}
use Rattle.std.proofs.Common.{sym, ap, ◌∙◌, arith}
use Rattle.lists.specs.Search.{lowest, lowest_from, items, items_from}
use Rattle.meaning.specs.Mesh.{Mesh, tri, twice_area}
use Rattle.meaning.specs.Lawful.{refusal, compatible, fault_of, first_outside, first_misnamed, first_repeat, first_flat, first_unused, first_clash}
use Rattle.meaning.specs.Proper.{none_left, parted_by, apart, first_crowded, first_overlap, uncrowded, disjoint}
use Rattle.meaning.specs.Split.{closure, split_edges, split_at, split, refined}
use Rattle.meaning.specs.Good.{pairs, span, G1-4, good}
use Rattle.meaning.specs.Coarsen.{taken, without, coarsened, good_nodes, pass, restored}
use Rattle.meaning.specs.Tables.{Given, Outcome, given, outcome, answer, node_at, row_at, mesh_of}
use Rattle.meaning.specs.Calls.{culprit_of, check_no, refine_no, refines, restores, sizes_fit, check_out, refine_out, tinted, refine_by_out, red_out, restore_out}
use Rattle.laws.specs.TableMesh.{nodes-count, tables_after}
use Rattle.proper.specs.Flawless.{Flawless}
use Rattle.demands.specs.Demand2Calls.{CutRed, demand2-calls}
use Rattle.demands.specs.ProperCalls.{the-base, accepted, red-works, grew-flawless}

-- a node at (a, b) that carries no correction
unfoldable pub stands : ℕ → ℕ → List ℤ
stands a b = pos a ∷ pos b ∷ pos 0 ∷ pos 0 ∷ []

unfoldable pub corners : List ℤ
corners = stands 0 0 ++ stands 8 0 ++ stands 0 8

-- One triangle, in room for 6 nodes and 4 rows, and what a call leaves there: its counts, nodes and rows.
unfoldable pub T : Given
T = given (corners ++ replicate 12 (pos 0)) (0 ∷ 1 ∷ 2 ∷ replicate 9 0) (replicate 40 7) 3 1

unfoldable pub leaving : ℕ → ℕ → List ℤ → List ℕ → Outcome
leaving n t ns rs = outcome (answer 0 n t 0 0) ns rs (replicate 40 0)

unfoldable pub whole : Outcome
whole = leaving 3 1 (corners ++ replicate 12 (pos 0)) (0 ∷ 1 ∷ 2 ∷ replicate 9 0)

unfoldable pub in_four : Outcome
in_four = leaving 6 4 (corners ++ stands 4 4 ++ stands 4 0 ++ stands 0 4) (0 ∷ 4 ∷ 5 ∷ 4 ∷ 1 ∷ 3 ∷ 5 ∷ 3 ∷ 2 ∷ 3 ∷ 5 ∷ 4 ∷ [])

-- The base check says 0.
pub T-checked : whole ≡ check_out T
unfolding stands corners T leaving whole lowest lowest_from items items_from node_at row_at mesh_of twice_area first_outside first_misnamed first_repeat first_flat first_unused first_clash fault_of refusal compatible none_left parted_by apart first_crowded first_overlap uncrowded disjoint culprit_of check_no sizes_fit check_out
T-checked = refl

-- ---- away

-- The triangle is marked, and cut red: 1 in the new field.
T-red : tinted in_four 1 ≡ red_out T 3 (1 ∷ [])
unfolding stands corners T leaving in_four lowest lowest_from items items_from node_at row_at mesh_of twice_area first_outside first_misnamed first_repeat first_flat first_unused fault_of refusal closure split_edges split_at split refined culprit_of refine_no refines sizes_fit refine_out refine_by_out
T-red = refl

-- Demand 2 of it: four rows, shaped like the father.
T-cut-red : CutRed (tri 0 1 2) 0 (mesh_of (tables_after in_four))
unfolding T leaving in_four items items_from node_at row_at mesh_of
T-cut-red = let r = demand2-calls.of-red T 3 (1 ∷ []) (tinted in_four 1) T-red in r.cuts-red refl 0 (omega arith) (r.marked-wholly 0 (omega arith) refl)

-- Restore says 0 after no pass, and leaves what the red refine left: six nodes.
pub T-stays : in_four ≡ restore_out (tables_after in_four) 3
unfolding stands corners leaving whole in_four lowest lowest_from items items_from node_at row_at mesh_of twice_area first_outside first_misnamed first_repeat first_flat first_unused fault_of refusal pairs span G1-4 good taken without coarsened good_nodes pass restored restores culprit_of sizes_fit restore_out
T-stays = refl

-- SO IT IS NOT THE BASE,
pub T-away : ¬ (mesh_of (tables_after in_four) ≡ mesh_of T)
unfolding T leaving in_four
T-away e =
    let six : ◌≡◌ {A = ℕ} 6 3 = sym (nodes-count (tables_after in_four)) ∙ ap (λ (m : Mesh). length m.nodes) e ∙ nodes-count T in
    omega arith

-- W7 of it, all the same: it grew from a base that the check admits, and is lawful and proper.
T-flawless : Flawless (mesh_of (tables_after in_four))
unfolding T leaving whole in_four
T-flawless = grew-flawless T whole T-checked refl (accepted the-base in_four (red-works 3 (1 ∷ []) (tinted in_four 1) T-red) refl)

-- ---- and not

-- Nothing is marked: 0 in the new field.
pub T-unmarked : tinted whole 0 ≡ red_out T 3 (0 ∷ [])
unfolding stands corners T leaving whole lowest lowest_from items items_from node_at row_at mesh_of twice_area first_outside first_misnamed first_repeat first_flat first_unused fault_of refusal closure split_edges split_at split refined culprit_of refine_no refines sizes_fit refine_out refine_by_out
T-unmarked = refl

-- The triangle is marked, but there is no scratch: refused as 1, and 0 in the new field.
pub T-refused : tinted (outcome (answer 1 3 1 0 0) (corners ++ replicate 12 (pos 0)) (0 ∷ 1 ∷ 2 ∷ replicate 9 0) []) 0 ≡ red_out (given (corners ++ replicate 12 (pos 0)) (0 ∷ 1 ∷ 2 ∷ replicate 9 0) [] 3 1) 3 (1 ∷ [])
unfolding stands corners mesh_of items items_from node_at row_at closure split_edges sizes_fit refine_out refine_by_out
T-refused = refl
