use Rattle.text.specs.Steps.{hex2-put}
use Rattle.text.proofs.write.Out.two.Goals as goal

pub returns-clause-text : goal.returns-clause-text
returns-clause-text c = hex2-put _ _ _ _ _ _ c.hex_digit.ensures c.hex_digit-2.ensures c.byte.ensures.text c.byte-2.ensures.text
