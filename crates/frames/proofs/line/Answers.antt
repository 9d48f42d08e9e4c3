use Rattle.frames.specs.FrameLaw.{line-none, lent-whole, line_plain}
use borrow.Author.Rules.{rules}
use Rattle.frames.proofs.line.Goals as goal

pub returns-then-not-whole : goal.returns-then-not-whole
returns-then-not-whole c = search (rules, line-none)

pub plain_line-requires : goal.plain_line-requires
plain_line-requires c = search (rules, lent-whole)

pub returns : goal.returns
returns c = search (rules, line_plain)
