use Rattle.text.specs.Writing.{text-copied}
use Rattle.text.proofs.write.put_text.Goals as goal

pub returns-clause-text : goal.returns-clause-text
returns-clause-text c = text-copied _ _ _ _ c.copy_from_slice.ensures.after c.requires
