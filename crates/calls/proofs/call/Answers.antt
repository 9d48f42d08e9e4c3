use Rattle.std.proofs.Common.{ap, sym, ◌∙◌}
use Rattle.admit.specs.AdmitLaw.{setting-fields}
use Rattle.protocol.specs.Kinds.{code}
use Rattle.calls.specs.CallsLaw.{called-check, called-refine, called-coarsen, called-set, called-restore}
use Rattle.calls.proofs.call.Goals as goal

pub returns-in-Some : goal.returns-in-Some
returns-in-Some c = called-refine _ _ _ _ _ _ _ _ (sym c.in-Some.is ∙ c.refines.ensures) c.refine_listed.ensures

pub set_given-requires : goal.set_given-requires
set_given-requires c = setting-fields _ _ _ c.requires.fields_value (ap code c.in-Set.is)

pub returns-in-Base : goal.returns-in-Base
returns-in-Base c = called-check _ _ _ _ _ _ _ _ _ _ c.plain.ensures.answer c.plain.ensures.red _ c.in-Base.is c.check_base.ensures

pub returns-in-Coarsen : goal.returns-in-Coarsen
returns-in-Coarsen c = called-coarsen _ _ _ _ _ _ _ _ _ _ c.plain-in-Coarsen.ensures.answer c.plain-in-Coarsen.ensures.red _ c.in-Coarsen.is c.coarsen_listed.ensures

pub returns-in-Set : goal.returns-in-Set
returns-in-Set c = called-set _ _ _ _ _ _ _ _ _ _ c.plain-in-Set.ensures.answer c.plain-in-Set.ensures.red _ c.in-Set.is c.set_given.ensures

pub returns-in_default-kind : goal.returns-in_default-kind
returns-in_default-kind c =
    called-restore _ _ _ _ _ _ _ _ _ _ c.plain-in_default-kind.ensures.answer c.plain-in_default-kind.ensures.red _ (sym c.in_default.is ∙ c.refines.ensures)
    c.in_default-kind.not-Base c.in_default-kind.not-Coarsen c.in_default-kind.not-Set c.restore.ensures
