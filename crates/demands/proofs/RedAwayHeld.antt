-- What follows from the runs of RedAway: no sequence of demand 3 leads to what the red refine left, and the calls that say 0 in the new field are in one that ends with
-- the base. Assumes nothing.
use Rattle.std.specs.Prelude.{[], ◌∷◌, ◌≡◌, refl, replicate}
use Rattle.std.proofs.Common.{arith}
use Rattle.meaning.specs.Tables.{Outcome, mesh_of}
use Rattle.meaning.specs.Calls.{tinted, restore_out}
use Rattle.laws.specs.TableMesh.{tables_after}
use Rattle.demands.specs.Demand3Calls.{Held, base-held, scratch-anew, after-refusal, red-made, red-0-held}
use Rattle.demands.proofs.Demand3.{demand3-calls}
use Rattle.demands.specs.RedAway.{T, leaving, whole, in_four, T-checked, T-stays, T-away, T-unmarked, T-refused}

-- AND NO LAW COULD MAKE A SEQUENCE OF DEMAND 3 OF IT.
T-not-held : ¬ Held T (tables_after in_four)
unfolding T leaving whole in_four
T-not-held h = T-away ((demand3-calls T whole T-checked refl h).mesh-again in_four T-stays refl)

-- Both are among the sequences of demand 3,
T-held : Held T (tables_after whole)
unfolding T leaving whole
T-held =
    let a = after-refusal base-held [] 3 1 _ (red-made 3 (1 ∷ []) _ T-refused) (λ z. omega arith) in
    red-0-held (scratch-anew a (replicate 40 7)) (0 ∷ []) (tinted whole 0) T-unmarked refl

-- so that a restore which says 0 ends with the base.
T-again : (o : Outcome) → o ≡ restore_out (tables_after whole) 3 → o.answer.number ≡ 0 → mesh_of (tables_after o) ≡ mesh_of T
unfolding T leaving whole
T-again = (demand3-calls T whole T-checked refl T-held).mesh-again
