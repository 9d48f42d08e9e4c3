use Rattle.std.proofs.Common.{arith}
use Rattle.lawful.specs.TestsLaw.{corners, named-row}
use Rattle.lawful.specs.Tests.{flat_at}
use borrow.Author.Rules.{rules}
use Rattle.lawful.proofs.flat_at.Goals as goal

pub returns : goal.returns
unfolding flat_at
returns c = cc

pub place-requires : goal.place-requires
place-requires c = omega (arith, named-row _ _ _ _ c.row-w.ensures c.requires.i_value)

pub place-requires-2 : goal.place-requires-2
place-requires-2 c = omega (arith, named-row _ _ _ _ c.row-w.ensures c.requires.i_value)

pub place-requires-3 : goal.place-requires-3
place-requires-3 c = omega (arith, named-row _ _ _ _ c.row-w.ensures c.requires.i_value)

pub flat-requires : goal.flat-requires
flat-requires c = search (rules, corners)
