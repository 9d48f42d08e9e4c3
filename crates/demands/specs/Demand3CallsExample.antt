-- Demands 2 and 3 of the calls at S with corrections: checked, refined from all three edges of a triangle, then by 01, a correction set, then
-- coarsened, questions and refused calls of each kind among them, with and without a culprit, and other scratch; each run compared with its lists.
-- Restore leaves S with its corrections after 2 passes. The premises of `demand3-calls` are met, and those of `asked-same`, by two runs:
-- proofs/Demand3CallsShown. Assumes nothing.
use Rattle.std.specs.Prelude.{List, [], ◌∷◌, ◌++◌, ◌≡◌, refl, ℕ, suc, ℤ, pos, negsuc, replicate}
use Rattle.std.proofs.Common.{arith}
use Rattle.lists.specs.Search.{lowest, lowest_from, items, items_from}
use Rattle.meaning.specs.declared.Correction.{Correction}
use Rattle.meaning.specs.declared.Place.{Place}
use Rattle.meaning.specs.declared.Quarters.TheVariants.{Bisected}
use Rattle.meaning.specs.declared.Told.{Told}
use Rattle.meaning.specs.Mesh.{place, correction, tri, twice_area}
use Rattle.meaning.specs.Lawful.{Names, refusal, compatible, fault_of, first_outside, first_misnamed, first_repeat, first_flat, first_unused, first_clash}
use Rattle.meaning.specs.Proper.{none_left, parted_by, apart, first_crowded, first_overlap, uncrowded, disjoint}
use Rattle.meaning.specs.Split.{newest, all_three, closure, split_edges, split_at, split, refined}
use Rattle.meaning.specs.Good.{pairs, span, G1-4, good}
use Rattle.meaning.specs.Coarsen.{taken, without, coarsened, good_nodes, pass, restored}
use Rattle.meaning.specs.Setting.{corrected, set_fault}
use Rattle.meaning.specs.Asking.{weighted, weights, mean_in, row_holding, correction_at}
use Rattle.meaning.specs.Tables.{Given, Outcome, given, outcome, answer, node_at, row_at, mesh_of}
use Rattle.meaning.specs.Calls.{culprit_of, check_no, refine_no, coarsen_no, checks, refines, coarsens, restores, sets, sizes_fit, check_out, refine_out, coarsen_out, restore_out, set_out, ask_no, told, asks, Heard, heard, ask_out}
use Rattle.laws.specs.TableMesh.{tables_after}
use Rattle.demands.specs.InFour.{InFour}
use Rattle.demands.specs.AskCall.{AskDone}
use Rattle.demands.specs.Demand2Calls.{RefineDone, CoarsenDone, SetDone, demand2-calls}
use Rattle.demands.specs.Demand3Calls.{Held, base-held, scratch-anew, after-refine, after-coarsen, after-set, after-refusal, after-question, check-made, refine-made, coarsen-made, set-made, restore-made}

-- a node at (a, b) that carries (c, d)
unfoldable pub bears : ℕ → ℕ → ℤ → ℤ → List ℤ
bears a b c d = pos a ∷ pos b ∷ c ∷ d ∷ []

unfoldable pub square : List ℤ
square = bears 0 0 (negsuc 2) (pos 7) ++ bears 8 0 (pos 5) (pos 0) ++ bears 8 8 (pos 0) (negsuc 1) ++ bears 0 8 (pos 1) (pos 1)

unfoldable pub two : List ℕ
two = 1 ∷ 2 ∷ 0 ∷ 3 ∷ 0 ∷ 2 ∷ []

-- S in room for 9 nodes and 10 rows, with numbers past the counts, and scratch full of sevens.
unfoldable pub S : Given
S = given (square ++ replicate 20 (pos 5)) (two ++ replicate 24 6) (replicate 76 7) 4 2

-- What a call leaves there that blames nobody: its number, counts and passes; nodes, rows, and how long scratch is.
unfoldable pub leaving : ℕ → ℕ → ℕ → ℕ → List ℤ → List ℕ → ℕ → Outcome
leaving k n t p ns rs c = outcome (answer k n t p 0) ns rs (replicate c 0)

-- What one leaves that is refused, node or row z being the culprit.
blaming : ℕ → ℕ → ℕ → ℕ → List ℤ → List ℕ → ℕ → Outcome
blaming k z n t ns rs c = outcome (answer k n t 0 z) ns rs (replicate c 0)

-- What a question leaves there.
unfoldable pub hearing : Told → List ℤ → List ℕ → ℕ → Heard
hearing a ns rs c = heard a ns rs (replicate c 0)

none : Correction
none = correction (pos 0) (pos 0)

-- The nodes and rows of S with row 0 cut in four, node 4 carrying (c, d); and of that with row 0 refined by 01.
unfoldable pub nodes_cut : ℤ → ℤ → List ℤ
nodes_cut c d = square ++ bears 4 4 c d ++ bears 8 4 (pos 2) (negsuc 0) ++ bears 4 0 (pos 1) (pos 3) ++ replicate 8 (pos 0)

nodes_more : ℤ → ℤ → List ℤ
nodes_more c d = square ++ bears 4 4 c d ++ bears 8 4 (pos 2) (negsuc 0) ++ bears 4 0 (pos 1) (pos 3) ++ bears 6 2 (pos 1) (pos 1) ++ replicate 4 (pos 0)

-- As it starts, with the mean of nodes 0 and 2, and with node 4 set to (100, −100).
cut_first : List ℤ
cut_first = nodes_cut (negsuc 1) (pos 2)

more_first : List ℤ
more_first = nodes_more (negsuc 1) (pos 2)

more_set : List ℤ
more_set = nodes_more (pos 100) (negsuc 99)

unfoldable pub cut_set : List ℤ
cut_set = nodes_cut (pos 100) (negsuc 99)

unfoldable pub to_set : Correction
to_set = correction (pos 100) (negsuc 99)

unfoldable pub rows_cut : List ℕ
rows_cut = 5 ∷ 4 ∷ 1 ∷ 4 ∷ 3 ∷ 0 ∷ 6 ∷ 4 ∷ 0 ∷ 5 ∷ 2 ∷ 4 ∷ 6 ∷ 1 ∷ 4 ∷ 4 ∷ 2 ∷ 3 ∷ replicate 12 0

rows_more : List ℕ
rows_more = 7 ∷ 5 ∷ 4 ∷ 4 ∷ 3 ∷ 0 ∷ 6 ∷ 4 ∷ 0 ∷ 5 ∷ 2 ∷ 4 ∷ 7 ∷ 6 ∷ 1 ∷ 4 ∷ 2 ∷ 3 ∷ 7 ∷ 1 ∷ 5 ∷ 7 ∷ 4 ∷ 6 ∷ replicate 6 0

-- The tables at the end, scratch of another length, full of nines.
unfoldable pub S4 : Given
S4 = given cut_set rows_cut (replicate 80 9) 7 6

-- The base check says 0 of S.
pub S-checked : leaving 0 4 2 0 (square ++ replicate 20 (pos 5)) (two ++ replicate 24 6) 76 ≡ check_out S
unfolding leaving bears square two S lowest lowest_from items items_from node_at row_at mesh_of twice_area first_outside first_misnamed first_repeat first_flat first_unused first_clash fault_of refusal compatible none_left parted_by apart first_crowded first_overlap uncrowded disjoint culprit_of check_no sizes_fit check_out
S-checked = refl

not-0 : (k : ℕ) → suc k ≡ 0 → ⊥
not-0 k e = omega arith

-- Row 0 is cut in four, then bisected. Node 4 is set; settings of node 2, a base node (13), of node 8, which is not there (15), and of node 4
-- to a value out of range (3: the node given). Questions about the place of node 4, which is told what was set, about a point that no row holds (14),
-- and with a count too low (4: row 0 names node 7). Then a check with a count too low (4: row 0 names node 7), a refine with a mark table of another length
-- (2), and one from all three edges for which there is no room (9); node 7 is coarsened; a coarsen with n0 above n (1) and a restore with no
-- scratch (1); a refine with a count too low (4: row 2 names node 6) and a restore with one too high (7: node 7 is in no row); other scratch.
pub history : Held S S4
unfolding leaving blaming hearing none bears square two nodes_cut cut_first cut_set nodes_more more_first more_set to_set rows_cut rows_more S S4 lowest lowest_from items items_from node_at row_at mesh_of twice_area first_outside first_misnamed first_repeat first_flat first_unused first_clash fault_of refusal compatible none_left parted_by apart first_crowded first_overlap uncrowded disjoint closure split_edges split_at split refined pairs span G1-4 good taken without coarsened good_nodes pass restored culprit_of check_no refine_no coarsen_no checks refines coarsens restores sizes_fit check_out refine_out coarsen_out restore_out corrected set_fault sets set_out weighted weights mean_in row_holding correction_at ask_no asks ask_out
history =
    let a = after-refine base-held all_three refl (1 ∷ 0 ∷ []) (leaving 0 7 6 0 cut_first rows_cut 76) refl refl in
    let b = after-refine a newest refl (1 ∷ 0 ∷ 0 ∷ 0 ∷ 0 ∷ 0 ∷ []) (leaving 0 8 8 0 more_first rows_more 76) refl refl in
    let s = after-set b 4 to_set (leaving 0 8 8 0 more_set rows_more 76) refl refl in
    let t = after-refusal s (replicate 76 3) 8 8 (leaving 13 8 8 0 more_set rows_more 76) (set-made 4 2 to_set refl) (not-0 12) in
    let u = after-refusal t (replicate 76 0) 8 8 (leaving 15 8 8 0 more_set rows_more 76) (set-made 4 8 to_set refl) (not-0 14) in
    let v = after-refusal u (replicate 76 0) 8 8 (blaming 3 4 8 8 more_set rows_more 76) (set-made 4 4 (correction (pos 0) (pos 32_768)) refl) (not-0 2) in
    let w = after-question v (replicate 76 5) 8 8 4 (place (pos 4) (pos 4)) (hearing (told 0 0 to_set) more_set rows_more 76) refl in
    let x = after-question w (replicate 76 0) 8 8 0 (place (pos 9) (pos 4)) (hearing (told 14 0 none) more_set rows_more 76) refl in
    let y = after-question x (replicate 76 0) 7 8 0 (place (pos 4) (pos 4)) (hearing (told 4 0 none) more_set rows_more 76) refl in
    let c = after-refusal y (replicate 76 1) 7 8 (blaming 4 0 7 8 more_set rows_more 76) (check-made refl) (not-0 3) in
    let d = after-refusal c (replicate 76 0) 8 8 (leaving 2 8 8 0 more_set rows_more 76) (refine-made newest 4 (1 ∷ []) refl) (not-0 1) in
    let e = after-refusal d (replicate 76 0) 8 8 (leaving 9 8 8 0 more_set rows_more 76) (refine-made all_three 4 (0 ∷ 0 ∷ 0 ∷ 0 ∷ 1 ∷ 0 ∷ 0 ∷ 0 ∷ []) refl) (not-0 8) in
    let f = after-coarsen e (0 ∷ 0 ∷ 0 ∷ 0 ∷ 0 ∷ 0 ∷ 0 ∷ 1 ∷ []) (leaving 0 7 6 0 cut_set rows_cut 76) refl refl in
    let g = after-refusal f (replicate 76 0) 7 6 (leaving 1 7 6 0 cut_set rows_cut 76) (coarsen-made 8 (replicate 7 1) refl) (not-0 0) in
    let h = after-refusal g [] 7 6 (leaving 1 7 6 0 cut_set rows_cut 0) (restore-made 4 refl) (not-0 0) in
    let i = after-refusal h (replicate 76 2) 6 6 (blaming 4 2 6 6 cut_set rows_cut 76) (refine-made newest 4 (replicate 6 0) refl) (not-0 3) in
    let j = after-refusal i (replicate 76 2) 9 6 (blaming 7 7 9 6 cut_set rows_cut 76) (restore-made 4 refl) (not-0 6) in
    scratch-anew j (replicate 80 9)

-- Demand 2, of the accepted runs: the tables hold the mesh refined from all three edges, then by 01; and the coarsened one.
quartered-first : RefineDone all_three S (1 ∷ 0 ∷ []) (leaving 0 7 6 0 cut_first rows_cut 76)
unfolding leaving bears square two nodes_cut cut_first cut_set rows_cut S lowest lowest_from items items_from node_at row_at mesh_of twice_area first_outside first_misnamed first_repeat first_flat first_unused fault_of refusal closure split_edges split_at split refined refine_no refines sizes_fit refine_out
quartered-first = (demand2-calls.of-quarter S 4 (1 ∷ 0 ∷ []) (leaving 0 7 6 0 cut_first rows_cut 76) refl).leaves-refined refl

-- row 0 is four rows now
quartered-in-four : InFour Bisected (tri 1 2 0) 0 (mesh_of (tables_after (leaving 0 7 6 0 cut_first rows_cut 76)))
unfolding leaving bears square two nodes_cut cut_first cut_set rows_cut S lowest lowest_from items items_from node_at row_at mesh_of twice_area first_outside first_misnamed first_repeat first_flat first_unused fault_of refusal closure split_edges split_at split refined refine_no refines sizes_fit refine_out
quartered-in-four = demand2-calls.cut-in-four S 4 (1 ∷ 0 ∷ []) (leaving 0 7 6 0 cut_first rows_cut 76) refl refl 0 (omega arith) refl

refined-next : RefineDone newest (tables_after (leaving 0 7 6 0 cut_first rows_cut 76)) (1 ∷ 0 ∷ 0 ∷ 0 ∷ 0 ∷ 0 ∷ []) (leaving 0 8 8 0 more_first rows_more 76)
unfolding leaving bears square nodes_cut cut_first cut_set nodes_more more_first more_set to_set rows_cut rows_more lowest lowest_from items items_from node_at row_at mesh_of twice_area first_outside first_misnamed first_repeat first_flat first_unused fault_of refusal closure split_edges split_at split refined refine_no refines sizes_fit refine_out
refined-next = (demand2-calls.of-refine _ 4 _ _ refl).leaves-refined refl

coarsened-last : CoarsenDone (tables_after (leaving 0 8 8 0 more_set rows_more 76)) 4 (0 ∷ 0 ∷ 0 ∷ 0 ∷ 0 ∷ 0 ∷ 0 ∷ 1 ∷ []) (leaving 0 7 6 0 cut_set rows_cut 76)
unfolding leaving bears square nodes_cut cut_first cut_set nodes_more more_first more_set to_set rows_cut rows_more lowest lowest_from items items_from node_at row_at mesh_of twice_area first_outside first_misnamed first_repeat first_flat first_unused fault_of refusal pairs span G1-4 good taken without coarsened coarsen_no coarsens sizes_fit coarsen_out
coarsened-last = (demand2-calls.of-coarsen _ 4 _ _ refl).leaves-coarsened refl

-- node 4 is set, and nothing else differs
set-between : SetDone (tables_after (leaving 0 8 8 0 more_first rows_more 76)) 4 to_set (leaving 0 8 8 0 more_set rows_more 76)
unfolding leaving bears square nodes_more more_first more_set to_set rows_more lowest lowest_from items items_from node_at row_at mesh_of twice_area first_outside first_misnamed first_repeat first_flat first_unused fault_of refusal corrected set_fault sets sizes_fit set_out
set-between = (demand2-calls.of-set _ 4 4 to_set _ refl).leaves-set refl

-- And of the refused runs with a count too low and one too high: row 2 is the lowest that names a node not there, node 7 the lowest in no row.
few : Given
few = given cut_set rows_cut (replicate 76 2) 6 6

many : Given
many = given cut_set rows_cut (replicate 76 2) 9 6

row_named : Names (mesh_of few) 4 2
unfolding blaming bears square nodes_cut cut_first cut_set rows_cut few lowest lowest_from items items_from node_at row_at mesh_of first_outside first_misnamed fault_of refusal culprit_of refine_no refines sizes_fit refine_out
row_named = (demand2-calls.of-refine few 4 (replicate 6 0) (blaming 4 2 6 6 cut_set rows_cut 76) refl).answered.names

node-named : Names (mesh_of many) 7 7
unfolding blaming bears square nodes_cut cut_first cut_set rows_cut many lowest lowest_from items items_from node_at row_at mesh_of twice_area first_outside first_misnamed first_repeat first_flat first_unused fault_of refusal culprit_of restores sizes_fit restore_out
node-named = (demand2-calls.of-restore many 4 (blaming 7 7 9 6 cut_set rows_cut 76) refl).answered.names

-- Restore, which says 0 after 2 passes, has left S, zeros past it.
restored-S : leaving 0 4 2 2 (square ++ replicate 20 (pos 0)) (two ++ replicate 24 0) 80 ≡ restore_out S4 4
unfolding leaving bears square two nodes_cut cut_first cut_set rows_cut S4 lowest lowest_from items items_from node_at row_at mesh_of twice_area first_outside first_misnamed first_repeat first_flat first_unused first_clash fault_of refusal pairs span G1-4 good taken without coarsened good_nodes pass restored restores sizes_fit restore_out
restored-S = refl

-- ---- W6: two runs from S, and one question after each

unfoldable pub P : Place
P = place (pos 6) (pos 2)

-- weights 32, 16, 16 of what nodes 1, 2 and 0 carry: 112/64 and 80/64
unfoldable pub of_base : Told
of_base = told 0 0 (correction (pos 1) (pos 1))

-- Demand 2, of the question about S itself: the mean by row 0, rounded down, and all else that is said of it.
told-of-base : AskDone (mesh_of S) P (correction (pos 1) (pos 1))
unfolding P of_base hearing bears square two S lowest lowest_from items items_from node_at row_at mesh_of twice_area first_outside first_misnamed first_repeat first_flat first_unused fault_of refusal sizes_fit weighted weights mean_in row_holding correction_at ask_no asks ask_out
told-of-base = (demand2-calls.of-question S 4 P (hearing of_base (square ++ replicate 20 (pos 5)) (two ++ replicate 24 6) 76) refl).tells-mean refl
