use Rattle.sweep.specs.Lined.{column-inside}
use borrow.Author.Rules.{rules}
use Rattle.sweep.proofs.Sweep.reach_of.Goals as goal

pub end_of-requires : goal.end_of-requires
end_of-requires c = search (rules, column-inside)
