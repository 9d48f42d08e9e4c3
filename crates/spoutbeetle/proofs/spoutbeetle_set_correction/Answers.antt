use borrow.Author.Rules.{rules}
use Rattle.spoutbeetle.specs.Exported.{set-answer}
use Rattle.spoutbeetle.proofs.spoutbeetle_set_correction.Goals as goal

pub returns : goal.returns
returns c = set-answer _ _ _ _ _ _ _ _ _ (search rules) (search rules) c.set_correction-set.ensures
