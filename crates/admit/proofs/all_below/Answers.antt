use Rattle.std.proofs.Common.{rules, arith, refl, ◌∙◌, length, ◌/◌, ltb}
use Rattle.std.proofs.lemmas.Iterator.{YieldsList-from_range}
use Rattle.std.proofs.lemmas.Iterator.Search.{all_from_yields_List}
use Rattle.text.specs.Digits.{field}
use Rattle.admit.specs.AdmitLaw.{all-listed}
use Rattle.admit.proofs.all_below.Goals as goal

pub returns : goal.returns
returns c =
    let n = length c.args.fields.now / 4 in
    all_from_yields_List (λ i. ltb (field 4 c.args.fields.now i) c.args.end) _ _ c.all.result c.all.ensures.ran (YieldsList-from_range 0 n n refl (omega arith)) (λ x b q k. search rules) ∙
    all-listed c.args.fields.now c.args.end
