use Rattle.std.proofs.Common.{◌∙◌, rules, w64, FitsSigned}
use mir.Facts.{to_z-of_z}
use Rattle.asking.specs.AskingLaw.{weights-made}
use Rattle.asking.proofs.weights_of.Goals as goal

pub returns : goal.returns
returns c =
    let p : FitsSigned w64 c.side-p.result = search rules in
    let q : FitsSigned w64 c.side-q.result = search rules in
    let r : FitsSigned w64 c.side-r.result = search rules in
    weights-made _ _ _ _ _ _ (to_z-of_z p ∙ c.side-p.ensures) (to_z-of_z q ∙ c.side-q.ensures) (to_z-of_z r ∙ c.side-r.ensures)
