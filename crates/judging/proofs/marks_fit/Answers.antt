use Rattle.std.proofs.Common.{rules}
use Rattle.std.proofs.Math.Dec.{leb}
use Rattle.std.proofs.lemmas.Iterator.{YieldsList-from_slice}
use Rattle.std.proofs.lemmas.Iterator.Search.{all_from_yields_List}
use borrow.Author.Tests.{tests}
use Rattle.judging.specs.Marks.{marks-fit-is}
use Rattle.judging.proofs.marks_fit.Goals as goal

pub returns-then-marks-k : goal.returns-then-marks-k
returns-then-marks-k c =
    marks-fit-is c.args.marks.now c.args.k _ c.if-marks-k.true
    (all_from_yields_List (λ m. leb m 1) _ _ _ c.all.ensures.ran (YieldsList-from_slice c.args.marks.now cc) (λ x b q k. search (rules, tests)))
