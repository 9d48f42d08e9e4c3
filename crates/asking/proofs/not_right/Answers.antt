use Rattle.std.proofs.Common.{rules, w64, FitsSigned}
use mir.Facts.{to_z-of_z}
use Rattle.asking.proofs.not_right.Goals as goal

pub returns : goal.returns
returns c =
    let x : FitsSigned w64 c.side.result = search rules in
    rw (to_z-of_z x, c.side.ensures)
