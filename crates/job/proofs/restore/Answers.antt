use Rattle.job.specs.PassLaw.{after-start, refuse, finish, less, passes-fit, passes-in, goes_on}
use borrow.Author.Rules.{rules}
use Rattle.job.proofs.restore.Goals as goal

pub loop-counts-init : goal.loop-counts-init
loop-counts-init c = (search rules, search rules, search rules, search rules, after-start _ _)

pub returns-then-pass-ne0 : goal.returns-then-pass-ne0
returns-then-pass-ne0 c = search (rules, refuse)

pub returns-then-pass-counts : goal.returns-then-pass-counts
returns-then-pass-counts c = search (rules, finish)

pub overflow_add-passes : goal.overflow_add-passes
overflow_add-passes c = search (rules, passes-fit)

pub loop-counts-smaller : goal.loop-counts-smaller
loop-counts-smaller c = search (rules, less)

pub loop-counts-preserved : goal.loop-counts-preserved
loop-counts-preserved c = (search rules, search rules, search rules, search passes-in, search goes_on)
