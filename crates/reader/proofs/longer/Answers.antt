use Rattle.reader.specs.ReaderLaw.{longer-more, longer-full}
use borrow.Author.Rules.{rules}
use Rattle.reader.proofs.longer.Goals as goal

pub returns-then-used-lt255 : goal.returns-then-used-lt255
returns-then-used-lt255 c = search (rules, longer-more)

pub returns-else-used-lt255 : goal.returns-else-used-lt255
returns-else-used-lt255 c = search (rules, longer-full)
