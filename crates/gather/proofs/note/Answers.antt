use native.Mathlib.Omega.{arith}
use Rattle.gather.specs.WholeLaw.{pairs-few, settled}
use Rattle.laws.specs.Meshes.{fair}
use borrow.Author.Rules.{rules}
use Rattle.gather.proofs.note.Goals as goal

pub note_nodes-requires-clause-n_in_bounds : goal.note_nodes-requires-clause-n_in_bounds
note_nodes-requires-clause-n_in_bounds c = (search rules, search rules)

pub note_nodes-requires-clause-n_le_nc : goal.note_nodes-requires-clause-n_le_nc
note_nodes-requires-clause-n_le_nc c = (search rules, search rules)

pub fates-requires-clause-fair : goal.fates-requires-clause-fair
fates-requires-clause-fair c = search (rules, fair)

pub fates-requires-clause-small : goal.fates-requires-clause-small
fates-requires-clause-small c = pairs-few _ _ _ _ _ _ _ c.requires.lawful _ c.requires.n_le_nc c.note_nodes.ensures

pub returns : goal.returns
returns c = settled _ _ _ _ _ _ _ c.requires.lawful _ c.requires.n_le_nc c.note_nodes.ensures _ _ (omega arith) c.fates.ensures c.numbers.ensures
