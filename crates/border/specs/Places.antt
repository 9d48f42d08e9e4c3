-- Places: when two are one, and a place strictly inside an edge. Assumes nothing.
use Rattle.std.specs.Prelude.{◌≢◌, ◌≡◌, pos, ◌<ℤ◌}
use Rattle.std.proofs.Common.{sym, ap, subst, ◌∙◌, arith}
use Rattle.whole.specs.Diff.{onℤ}
use Rattle.whole.specs.Ring.{K, ring4, ring6}
use Rattle.meaning.specs.declared.Place.{Place}
use Rattle.meaning.specs.Mesh.{turn}
use Rattle.meaning.specs.Proper.{StrictlyInside, facing}
use Rattle.proper.specs.OnLine.{facing_expr}
use Rattle.laws.specs.Area.{turn-cycle, turn-from, turn-back}

pub place-eq : {A B : Place} → A.x ≡ B.x → A.y ≡ B.y → A ≡ B
place-eq e f = λ i. record { x = e i; y = f i }

-- places that make an area are two
pub apart-of-turn : (A B C : Place) → pos 0 <ℤ turn A B C → A ≢ B
apart-of-turn A B C h e = let f : turn A B C ≡ pos 0 = ap (λ P. turn A P C) (sym e) ∙ turn-cycle A A C ∙ turn-from A C in omega (arith, onℤ)

pub facing-from : (A B : Place) → facing A B A ≡ pos 0
facing-from A B = ring4 (λ a b c d. (facing_expr a b c d a b, K (pos 0))) A.x A.y B.x B.y tt

pub facing-to : (A B : Place) → facing A B B ≡ pos 0
facing-to A B = ring4 (λ a b c d. (facing_expr a b c d c d, K (pos 0))) A.x A.y B.x B.y tt

-- the edge the other way round
pub inside_back : {A B P : Place} → StrictlyInside A B P → StrictlyInside B A P
inside_back {A} {B} {P} s = record {
  on_line = turn-back A B P s.on_line;
  between = subst (λ k. k <ℤ pos 0) (ring6 (λ a b c d x y. (facing_expr a b c d x y, facing_expr c d a b x y)) A.x A.y B.x B.y P.x P.y tt) s.between;
}
