use Rattle.refining.specs.RefineLaw.{closed-ready, weighty, late-verdict, late-plan}
use borrow.Author.Rules.{rules}
use Rattle.refining.proofs.lay_out.Goals as goal

pub number-k-requires-clause-ready : goal.number-k-requires-clause-ready
number-k-requires-clause-ready c = search (rules, closed-ready)

pub weigh-requires : goal.weigh-requires
weigh-requires c = weighty _ _ _ _ _ _ _ c.requires _ _ _ c.close.ensures c.number-k.ensures

pub returns-clause-verdict : goal.returns-clause-verdict
returns-clause-verdict c = late-verdict _ _ _ _ _ _ _ c.requires _ _ _ c.close.ensures c.number-k.ensures _ _ c.weigh.ensures

pub returns-clause-plan : goal.returns-clause-plan
returns-clause-plan c = late-plan _ _ _ _ _ _ _ c.requires _ _ _ c.close.ensures c.number-k.ensures _ _ c.weigh.ensures
