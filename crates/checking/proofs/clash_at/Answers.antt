use Rattle.checking.specs.Clash.{met-row, clash-found, clash-none}
use borrow.Author.Rules.{rules}
use Rattle.checking.proofs.clash_at.Goals as goal

pub row_at-requires : goal.row_at-requires
row_at-requires c = search (rules, met-row)

pub returns-in-Some : goal.returns-in-Some
returns-in-Some c = search (rules, clash-found)

pub returns-in-None : goal.returns-in-None
returns-in-None c = search (rules, clash-none)
