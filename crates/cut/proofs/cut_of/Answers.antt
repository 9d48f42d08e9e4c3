use Rattle.std.proofs.Common.{rules}
use Rattle.cut.specs.CutLaw.{cut-none, cut-m, cut-mv, cut-mu, cut-bisected, cut-red}
use Rattle.cut.proofs.cut_of.Goals.{in-0-default-default-default, in_default-eq0-eq0-default, in_default-eq0-default-default, in_default-default-eq0-default, in_default-default-default-Bisected, in_default-default-default-Red}
use Rattle.cut.proofs.cut_of.Goals as goal

pub returns : goal.returns
returns c = elim c.match-k.branch [
  | in-0-default-default-default w ↦ rw w.count-is (search (rules, cut-none))
  | in_default-eq0-eq0-default w ↦ rw w.count-is (search (rules, cut-m))
  | in_default-eq0-default-default w ↦ rw w.count-is (search (rules, cut-mv))
  | in_default-default-eq0-default w ↦ rw w.count-is (search (rules, cut-mu))
  | in_default-default-default-Bisected w ↦ rw w.count-is (search (rules, cut-bisected))
  | in_default-default-default-Red w ↦ rw w.count-is (search (rules, cut-red))
]
