use Rattle.cut.specs.CutLaw.{Partly}
use Rattle.cut.proofs.cut_rows.Given as goal

abbrev pub invariant-loop-i : goal.invariant-loop-i
invariant-loop-i l = Partly l.quarters l.n l.initial.rows l.scratch l.t l.t1 l.i l.end l.rows
