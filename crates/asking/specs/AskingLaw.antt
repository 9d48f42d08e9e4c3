-- The weights of a point, in the form of their need. Assumes nothing.
use Rattle.std.specs.Prelude.{◌≡◌, List, ℤ}
use Rattle.meaning.specs.declared.Place.{Place}
use Rattle.meaning.specs.declared.Tri.{Tri}
use Rattle.asking.specs.Asking.{side_of, weights_at, weights_in}

pub weights-made : (nodes : List ℤ) (w : Tri) (P : Place) (x y z : ℤ) → x ≡ side_of nodes w.q w.r P → y ≡ side_of nodes w.r w.p P → z ≡ side_of nodes w.p w.q P →
    weights_at x y z ≡ weights_in nodes w P
unfolding weights_in
weights-made nodes w P x y z a b c = (λ i. weights_at (a i) (b i) (c i))
