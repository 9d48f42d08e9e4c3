use Rattle.reader.specs.ReaderLaw.{last-plain, last-torn}
use borrow.Author.Rules.{rules}
use Rattle.reader.proofs.put_last.Goals as goal

pub returns-then-used-eq0 : goal.returns-then-used-eq0
returns-then-used-eq0 c = search (rules, last-plain)

pub returns-else-used-eq0 : goal.returns-else-used-eq0
returns-else-used-eq0 c = search (rules, last-torn)
