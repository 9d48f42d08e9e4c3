use Rattle.std.proofs.Common.{◌∙◌, rules, w64, FitsSigned}
use mir.Facts.{to_z-of_z}
use Rattle.laws.specs.Meshes.{range-of}
use Rattle.asking.specs.Asking.{side_of}
use Rattle.asking.proofs.side.Goals as goal

pub twice_area-requires : goal.twice_area-requires
twice_area-requires c = search (rules, range-of)

pub returns : goal.returns
unfolding side_of
returns c =
    let x : FitsSigned w64 c.twice_area.result = search rules in
    to_z-of_z x ∙ (rw (c.corner.ensures, c.corner-2.ensures) at c.twice_area.ensures)
