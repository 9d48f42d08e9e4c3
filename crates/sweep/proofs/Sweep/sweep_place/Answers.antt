use Rattle.sweep.specs.Lined.{lined-behind}
use borrow.Author.Rules.{rules}
use Rattle.sweep.proofs.Sweep.sweep_place.Goals as goal

pub worst_behind-requires-clause-by_index : goal.worst_behind-requires-clause-by_index
worst_behind-requires-clause-by_index c = search (rules, lined-behind)
