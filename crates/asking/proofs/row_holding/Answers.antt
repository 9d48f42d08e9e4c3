use Rattle.std.proofs.Common.{rules, refl}
use Rattle.std.proofs.iter.Serving.{serving}
use Rattle.lists.specs.RangeLaw.{lowest-found}
use Rattle.asking.specs.Asking.{holds_at}
use Rattle.asking.proofs.row_holding.Goals as goal

pub returns : goal.returns
returns c = lowest-found (holds_at c.args.mesh.nodes.now c.args.mesh.rows.now c.args.point) c.args.mesh.t _ _ _ _ c.find.ensures.ran refl refl (λ x b q h. search rules)

pub find-requires-clause-callable : goal.find-requires-clause-callable
find-requires-clause-callable c = grind (serving, c.requires)
