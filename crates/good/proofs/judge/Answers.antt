use Rattle.good.specs.RivalLaw.{some-row, all-judged}
use Rattle.laws.specs.Meshes.{fair}
use native.Mathlib.Omega.{arith}
use borrow.Author.Rules.{rules}
use Rattle.good.proofs.judge.Goals as goal

pub signs-requires-clause-fair : goal.signs-requires-clause-fair
signs-requires-clause-fair c = search (rules, fair)

pub signs-requires-clause-n_le_nc : goal.signs-requires-clause-n_le_nc
signs-requires-clause-n_le_nc c = (search rules, search rules)

pub returns : goal.returns
returns c = all-judged _ _ _ _ _ c.requires.lawful _ _ _ _ c.signs.ensures c.tag_lone.ensures (omega arith) (omega arith)

pub note_rows-requires-clause-fair : goal.note_rows-requires-clause-fair
note_rows-requires-clause-fair c = search (rules, fair)

pub tag_lone-requires-clause-n_le_nc : goal.tag_lone-requires-clause-n_le_nc
tag_lone-requires-clause-n_le_nc c = (search rules, search rules, search rules)

pub tag_lone-requires-clause-t_nonzero : goal.tag_lone-requires-clause-t_nonzero
tag_lone-requires-clause-t_nonzero c = search (rules, some-row)
