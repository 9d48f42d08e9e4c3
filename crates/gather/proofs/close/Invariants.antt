use Rattle.gather.specs.Closing.{Closing}
use Rattle.lists.specs.Table.{read_at}
use Prim.Native.Nat.{◌≤◌}
use Rattle.gather.proofs.close.Given as goal

abbrev pub invariant-loop-i : goal.invariant-loop-i
invariant-loop-i g l =
    (l.k ≤ l.i)
    × Closing (read_at g.R.Record.form) g.all.gone (λ x i. g.all.made i (read_at g.R.Record.form x i)) l.initial.table l.table l.i l.k l.t
