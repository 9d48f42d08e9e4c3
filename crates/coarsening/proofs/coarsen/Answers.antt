use native.Mathlib.Omega.{arith}
use Rattle.judging.specs.Leaving.{passed-on}
use Rattle.coarsening.specs.Coarsen.{law-at, coarsen-refused, coarsen-worked}
use Rattle.coarsening.proofs.coarsen.Goals as goal

pub returns-in_err-judge : goal.returns-in_err-judge
returns-in_err-judge c = coarsen-refused _ _ _ _ _ _ _ c.requires _ _ (passed-on _ _ c.from_residual.ensures.1) c.in_err-judge.ensures.verdict

pub take_out-after-requires : goal.take_out-after-requires
take_out-after-requires c =
    let a = c.in_ok-judge.ensures.admitted in
    record {
      lawful = law-at _ _ _ _ a.law;
      sized = a.sizes;
      n_in_bounds = (a.nodes-fit, a.rows_fit);
      n_le_nc = (omega arith, omega arith);
      n_in_bounds_2 = omega arith;
      scratch_value = a.notes;
      ready = a.ready;
    }

pub returns : goal.returns
returns c = coarsen-worked _ _ _ _ _ _ _ c.requires c.in_ok-judge.ensures.verdict _ _ _ c.take_out-after.ensures
