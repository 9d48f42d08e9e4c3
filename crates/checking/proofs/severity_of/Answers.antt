use Rattle.checking.specs.Check.{border-needs, border-says, severity-needs, severity-same}
use borrow.Author.Rules.{rules}
use Rattle.checking.proofs.severity_of.Goals as goal

pub is_clear-requires : goal.is_clear-requires
is_clear-requires c = search (rules, border-needs)

pub returns-then-is_clear : goal.returns-then-is_clear
returns-then-is_clear c = search (rules, border-says)

pub severity-requires : goal.severity-requires
severity-requires c =
    let needs = severity-needs _ _ _ _ _ c.requires _ _ c.is_clear.ensures.ready c.clear.ensures in
    record {
      lawful = needs.0;
      n_in_bounds = needs.1.0;
      t_in_bounds = needs.1.1.0;
      t_bound = needs.1.1.1.0;
      t_in_bounds_2 = needs.1.1.1.1.0;
      scratch_value = needs.1.1.1.1.1;
    }

pub returns : goal.returns
returns c = search (rules, severity-same)
