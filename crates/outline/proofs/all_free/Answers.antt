use Rattle.std.proofs.Common.{refl, rules}
use Rattle.meaning.specs.Tables.{place_at}
use Rattle.outline.specs.RangeAll.{none-fails}
use Rattle.outline.specs.Seen.{not_free, all_free}
use Rattle.outline.proofs.all_free.Goals as goal

pub returns : goal.returns
unfolding all_free
returns c = none-fails (not_free (place_at c.args.nodes.now) c.args.scratch.now c.args.b) c.args.b _ _ _ _ c.all.ensures.ran refl refl (λ x b q h. search rules)
