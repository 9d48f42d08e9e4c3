use Rattle.outline.specs.SeenLaw.{sum-above, turns_fit}
use Rattle.std.proofs.Common.{◌∙◌, rules, w64, FitsSigned}
use mir.Facts.{to_z-of_z}
use Rattle.outline.proofs.left_of.Goals as goal

pub overflow_add-result : goal.overflow_add-result
overflow_add-result c =
    let x : FitsSigned w64 c.twice_area.result = search rules in
    let y : FitsSigned w64 c.twice_area-2.result = search rules in
    rw (to_z-of_z x, to_z-of_z y, c.twice_area.ensures, c.twice_area-2.ensures) (search (rules, turns_fit))

pub returns : goal.returns
returns c =
    let x : FitsSigned w64 c.twice_area.result = search rules in
    let y : FitsSigned w64 c.twice_area-2.result = search rules in
    sum-above _ _ _ _ (to_z-of_z x ∙ c.twice_area.ensures) (to_z-of_z y ∙ c.twice_area-2.ensures)
    (turns_fit _ _ _ _ c.requires.0 c.requires.1 c.requires.2 c.requires.3)
