use Rattle.reader.specs.ReaderLaw.{wiped-is}
use Rattle.reader.proofs.wipe.Goals as goal

pub returns : goal.returns
returns c = wiped-is _ _ _ c.requires (c.fill.ensures.after (λ y e. e))
