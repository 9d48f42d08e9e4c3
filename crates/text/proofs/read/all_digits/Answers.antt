use Rattle.std.proofs.Common.{rules, ◌∙◌}
use Rattle.std.proofs.lemmas.Iterator.{YieldsList-from_slice}
use Rattle.std.proofs.lemmas.Iterator.Search.{all_from_yields_List}
use Rattle.text.specs.Digits.{is_digit}
use Rattle.text.specs.DigitsLaw.{all-is}
use Rattle.text.proofs.read.all_digits.Goals as goal

pub returns : goal.returns
returns c =
    all_from_yields_List is_digit _ _ c.all.result c.all.ensures.ran (YieldsList-from_slice c.args.text.now cc) (λ x b q k. search rules) ∙
    all-is is_digit c.args.text.now
