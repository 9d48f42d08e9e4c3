use native.Mathlib.Omega.{arith}
use Rattle.gather.specs.WholeLaw.{goes-noted}
use borrow.Author.Rules.{rules}
use Rattle.gather.proofs.note_nodes.Goals as goal

pub judge-requires-clause-n_in_bounds : goal.judge-requires-clause-n_in_bounds
judge-requires-clause-n_in_bounds c = (search rules, search rules)

pub judge-requires-clause-n_le_nc : goal.judge-requires-clause-n_le_nc
judge-requires-clause-n_le_nc c = (search rules, search rules)

pub returns : goal.returns
returns c = goes-noted _ _ _ _ _ _ _ (omega arith) c.judge.ensures c.take_nodes.ensures
