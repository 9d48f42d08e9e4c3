-- The greater of two graves is the graver.
use Rattle.std.proofs.Common.{◌≡◌, max, refl}
use Rattle.std.specs.Ordering.{ord_max}
use Rattle.pairs.specs.contracts.GraveOrd.TheImpl.{cmp-value}
use Rattle.pairs.specs.declared.Grave.{Grave}
use Rattle.pairs.specs.declared.Grave.TheVariants.{Apart, Lapping, Touching}
use Rattle.pairs.specs.Gravity.{gravity}

pub gravity-max : (a b : Grave) → gravity (ord_max cmp-value.it a b) ≡ max (gravity a) (gravity b)
gravity-max Apart Apart = refl
gravity-max Apart Lapping = refl
gravity-max Apart Touching = refl
gravity-max Lapping Apart = refl
gravity-max Lapping Lapping = refl
gravity-max Lapping Touching = refl
gravity-max Touching Apart = refl
gravity-max Touching Lapping = refl
gravity-max Touching Touching = refl
