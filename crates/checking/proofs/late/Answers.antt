use Rattle.neighbours.specs.Ready.{searched}
use Rattle.std.proofs.Common.{ap, ◌∙◌, refl, ℕ}
use Rattle.meaning.specs.Lawful.{fault}
use Rattle.checking.specs.Check.{late-number}
use Rattle.checking.proofs.late.Goals as goal

pub returns : goal.returns
returns c =
    c.refusal_of.ensures
    ∙ ap (λ (k : ℕ). fault k 0) (late-number _ _ _ _ c.requires.law _ _ _ _ c.first_clash.ensures c.is_some-clashing.ensures c.severity_of-grave.ensures refl)

pub invariant_of-search : goal.invariant_of-search
invariant_of-search c = searched _ _ _ _ c.requires.ready
