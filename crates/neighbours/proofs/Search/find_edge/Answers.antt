use Rattle.neighbours.specs.Ready.{Ready}
use Rattle.neighbours.specs.Walk.{outside-x, outside-y, rarer-end, rarer-below}
use mathlib.Core.Logic.{∥∥₁_elim}
use Rattle.std.proofs.Props.{props}
use borrow.Author.Rules.{rules}
use Rattle.neighbours.proofs.Search.find_edge.Goals as goal
use Rattle.neighbours.proofs.Search.find_edge.Goals.{then-x-self-via-then-x-self, then-x-self-via-else-x-self+then-y-self}

pub returns-then-x-self : goal.returns-then-x-self
returns-then-x-self c =
    ∥∥₁_elim c.args.self.ready (Prim.hlevel props) (λ (w : Ready c.args.self.scratch.now c.args.self.nc c.args.self.rows.now c.args.self.t). elim c.then-x-self.branch [ then-x-self-via-then-x-self b ↦ search (rules, w, outside-x) | then-x-self-via-else-x-self+then-y-self b ↦ search (rules, w, outside-y) ])

pub rarer-v-requires : goal.rarer-v-requires
unfolding Ready
rarer-v-requires c = search rules

pub walk-requires-clause-v_lt_nc : goal.walk-requires-clause-v_lt_nc
walk-requires-clause-v_lt_nc c = search (rules, rarer-below)

pub walk-requires-clause-end_of : goal.walk-requires-clause-end_of
walk-requires-clause-end_of c = search (rules, rarer-end)
