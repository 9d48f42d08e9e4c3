use Rattle.refining.specs.RefineLaw.{carry-done}
use borrow.Author.Rules.{rules}
use Rattle.refining.proofs.carry_out.Goals as goal

pub returns : goal.returns
returns c = search (rules, carry-done)
