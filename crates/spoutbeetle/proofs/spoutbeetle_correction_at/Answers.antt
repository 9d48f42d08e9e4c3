use borrow.Author.Rules.{rules}
use Rattle.spoutbeetle.specs.Exported.{ask-answer}
use Rattle.spoutbeetle.proofs.spoutbeetle_correction_at.Goals as goal

pub returns : goal.returns
returns c = ask-answer _ _ _ _ _ _ _ _ (search rules) (search rules) (search rules) (search rules) c.correction_at-told.ensures
