use Rattle.std.proofs.Common.{sym, ◌∙◌}
use Rattle.outline.specs.LookLaw.{look_far}
use Rattle.outline.proofs.Edge.look.Goals as goal

pub returns-then-far : goal.returns-then-far
returns-then-far c = sym (look_far _ _ c.requires.0 c.requires.1 (sym c.far.ensures ∙ c.if-far.true))
