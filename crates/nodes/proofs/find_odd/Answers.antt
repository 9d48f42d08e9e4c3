use Rattle.std.proofs.Common.{rules, refl}
use Rattle.lists.specs.RangeLaw.{lowest-found}
use Rattle.nodes.specs.Nodes.{odd_at}
use Rattle.nodes.proofs.find_odd.Goals as goal

pub returns : goal.returns
returns c = lowest-found (odd_at c.args.nodes.now c.args.rows.now c.args.scratch.now) c.args.t _ _ _ _ c.find.ensures.ran refl refl (λ x b q h. search rules)
