use native.Mathlib.Nat.{mod-lt}
use borrow.Author.Rules.{rules}
use Rattle.good.proofs.rival.bucket.Goals as goal

pub returns-clause-below : goal.returns-clause-below
returns-clause-below c = mod-lt _ (search rules)
