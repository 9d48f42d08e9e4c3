-- What the runs of Demand3CallsExample meet: the premises of `demand3-calls`, which says that restore leaves S with its corrections after 2 passes
-- (`restored-S`), and those of `asked-same`, by two runs. Assumes nothing.
use Rattle.std.specs.Prelude.{List, [], ◌∷◌, ◌++◌, ◌≡◌, refl, ℕ, ◌<◌, ℤ, pos, negsuc, replicate}
use Rattle.std.proofs.Common.{arith}
use Rattle.lists.specs.Search.{lowest, lowest_from, items, items_from}
use Rattle.meaning.specs.declared.Told.{Told}
use Rattle.meaning.specs.Mesh.{place, correction, twice_area}
use Rattle.meaning.specs.Lawful.{refusal, compatible, fault_of, first_outside, first_misnamed, first_repeat, first_flat, first_unused, first_clash}
use Rattle.meaning.specs.Split.{newest, closure, split_edges, split_at, split, refined}
use Rattle.meaning.specs.Good.{pairs, span, G1-4, good}
use Rattle.meaning.specs.Coarsen.{taken, without, coarsened, good_nodes, pass, restored}
use Rattle.meaning.specs.Setting.{corrected, set_fault}
use Rattle.meaning.specs.Asking.{weighted, weights, mean_in, row_holding, correction_at}
use Rattle.meaning.specs.Tables.{Outcome, given, node_at, row_at, mesh_of}
use Rattle.meaning.specs.Calls.{culprit_of, refine_no, refines, restores, sets, sizes_fit, refine_out, coarsen_out, restore_out, set_out, ask_no, told, asks, Heard, ask_out}
use Rattle.laws.specs.CallLaw.{Sizes}
use Rattle.proper.specs.Flawless.{Flawless}
use Rattle.demands.specs.Demand3Calls.{base-held, after-refine, after-set}
use Rattle.demands.proofs.Demand3.{demand3-calls}
use Rattle.demands.proofs.AskAgain.{AskedAfter, asked-same}
use Rattle.demands.specs.ProperCalls.{held-grew, grew-flawless}
use Rattle.demands.specs.PointCalls.{node-tells}
use Rattle.demands.specs.Demand3CallsExample.{bears, square, two, S, leaving, hearing, nodes_cut, cut_set, to_set, rows_cut, S4, P, of_base, S-checked, history}

-- A full pass that is made removes a node,
passed : (o : Outcome) → o ≡ coarsen_out S4 4 (replicate 7 1) → o.answer.n < 7
unfolding leaving bears square two nodes_cut cut_set rows_cut S S4 sizes_fit
passed o e = ((demand3-calls S _ S-checked refl history).pass-takes-one (omega arith) o e refl).1

-- and restore, which says 0 after 2 passes (`restored-S`), has left S, zeros past it.
again : (o : Outcome) → o ≡ restore_out S4 4 → o.answer.number ≡ 0 → o ≡ leaving 0 4 2 2 (square ++ replicate 20 (pos 0)) (two ++ replicate 24 0) 80
unfolding leaving bears square two nodes_cut cut_set rows_cut S S4 lowest lowest_from items items_from node_at row_at mesh_of twice_area pairs span G1-4 good taken without coarsened good_nodes pass restored
again o e z = (demand3-calls S _ S-checked refl history).base-again o e z

-- ---- W6: two runs from S, and one question after each

-- The calls of `history`, a restore, the question.
asked-first : AskedAfter S P of_base
unfolding P of_base leaving hearing bears square two nodes_cut cut_set rows_cut S S4 lowest lowest_from items items_from node_at row_at mesh_of twice_area first_outside first_misnamed first_repeat first_flat first_unused first_clash fault_of refusal pairs span G1-4 good taken without coarsened good_nodes pass restored restores sizes_fit restore_out weighted weights mean_in row_holding correction_at ask_no asks ask_out
asked-first = record {
  left = S4;
  calls = history;
  restored = leaving 0 4 2 2 (square ++ replicate 20 (pos 0)) (two ++ replicate 24 0) 80;
  by-restore = refl;
  accepted = refl;
  scratch = replicate 76 3;
  scratch-enough = omega arith;
  n0 = 4;
  n0-within = omega arith;
  question = hearing of_base (square ++ replicate 20 (pos 0)) (two ++ replicate 24 0) 76;
  by-question = refl;
  was-told = refl;
}

-- Row 0 refined by 01, node 4 set to (−9, 9), a restore, the question.
nodes_once : ℤ → ℤ → List ℤ
nodes_once c d = square ++ bears 4 4 c d ++ replicate 16 (pos 0)

rows_once : List ℕ
rows_once = 4 ∷ 1 ∷ 2 ∷ 4 ∷ 3 ∷ 0 ∷ 4 ∷ 0 ∷ 1 ∷ 4 ∷ 2 ∷ 3 ∷ replicate 18 0

asked-second : AskedAfter S P of_base
unfolding P of_base leaving hearing bears square two nodes_once rows_once S lowest lowest_from items items_from node_at row_at mesh_of twice_area first_outside first_misnamed first_repeat first_flat first_unused first_clash fault_of refusal compatible closure split_edges split_at split refined pairs span G1-4 good taken without coarsened good_nodes pass restored culprit_of refine_no refines restores sizes_fit refine_out restore_out corrected set_fault sets set_out weighted weights mean_in row_holding correction_at ask_no asks ask_out
asked-second = record {
  left = given (nodes_once (negsuc 8) (pos 9)) rows_once (replicate 76 0) 5 4;
  calls =
      (let a = after-refine base-held newest refl (1 ∷ 0 ∷ []) (leaving 0 5 4 0 (nodes_once (negsuc 1) (pos 2)) rows_once 76) refl refl in
      after-set a 4 (correction (negsuc 8) (pos 9)) (leaving 0 5 4 0 (nodes_once (negsuc 8) (pos 9)) rows_once 76) refl refl);
  restored = leaving 0 4 2 1 (square ++ replicate 20 (pos 0)) (two ++ replicate 24 0) 76;
  by-restore = refl;
  accepted = refl;
  scratch = replicate 80 0;
  scratch-enough = omega arith;
  n0 = 0;
  n0-within = omega arith;
  question = hearing of_base (square ++ replicate 20 (pos 0)) (two ++ replicate 24 0) 80;
  by-question = refl;
  was-told = refl;
}

-- Whatever run it is, it is told this.
asked-alike : (r : Told) → AskedAfter S P r → r ≡ of_base
unfolding leaving
asked-alike r a = asked-same S _ S-checked refl a asked-second

-- ---- W7: what grew from S

-- The tables that the calls of `history` left hold a lawful, proper mesh.
S4-flawless : Flawless (mesh_of S4)
unfolding leaving
S4-flawless = grew-flawless S _ S-checked refl (held-grew history)

-- A question about the place of node 4 is told what the node carries, as any row that holds it would have it.
node-4 : (o : Heard) → o ≡ ask_out S4 4 (place (pos 4) (pos 4)) → Sizes S4 4 → o.told ≡ told 0 0 to_set
unfolding bears square nodes_cut cut_set to_set leaving S4 items items_from node_at mesh_of
node-4 o e s = node-tells S _ S-checked refl (held-grew history) 4 (place (pos 4) (pos 4)) o e s 4 (omega arith) refl
