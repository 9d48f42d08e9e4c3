use Rattle.std.proofs.Common.{rules, refl}
use Rattle.lists.specs.RangeLaw.{lowest-found}
use Rattle.checking.specs.Clash.{clash_at}
use Rattle.checking.proofs.first_clash.Goals as goal

pub returns : goal.returns
returns c = lowest-found (clash_at c.args.search.rows.now c.args.search.t) c.args.search.t _ _ _ _ c.find.ensures.ran refl refl (λ x b q h. search rules)
