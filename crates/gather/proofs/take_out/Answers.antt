use Rattle.gather.specs.WholeLaw.{all_left}
use borrow.Author.Rules.{rules}
use Rattle.gather.proofs.take_out.Goals as goal

pub returns : goal.returns
returns c = search (rules, all_left)
