-- W8: "Jobs with round stamps want children shaped like the father." The four rows of a red cut are: each side of a child is half a side of the father, exactly, in
-- length and direction; of the inner child every side is turned round. So children have the father's angles, at half the size. Assumes nothing.
use Rattle.std.specs.Prelude.{◌≡◌, refl, ℕ, ℤ, pos, ◌+ℤ◌, ◌-ℤ◌, ◌*ℤ◌, Some}
use Rattle.std.proofs.Common.{◌∙◌}
use Rattle.std.proofs.Math.IntN.{+ℤ_comm}
use Rattle.lists.specs.Lists.{All, nil, cons}
use Rattle.whole.specs.Ring.{K, ◌:+◌, ◌:-◌, ◌:*◌, ring2, ring3}
use Rattle.meaning.specs.declared.Place.{Place}
use Rattle.meaning.specs.declared.Tri.{Tri}
use Rattle.meaning.specs.Mesh.{Mesh, at}
use Rattle.meaning.specs.Good.{Middle}
use Rattle.meaning.specs.Split.{red}
use Rattle.laws.specs.Cut.{Centred, parts}

-- the way from A to B is half of that from C to D
pub record HalfWay (A B C D : Place) : Type 0 where
  pub x-half : pos 2 *ℤ (B.x -ℤ A.x) ≡ D.x -ℤ C.x
  pub y-half : pos 2 *ℤ (B.y -ℤ A.y) ≡ D.y -ℤ C.y

-- the triangle k has the sides of t at half their length: p→q, q→r, r→p in the same directions, or all three turned round
pub data ShapedLike (M : Mesh) (t k : Tri) : Type 0 where
  upright : HalfWay (at M k.p) (at M k.q) (at M t.p) (at M t.q) → HalfWay (at M k.q) (at M k.r) (at M t.q) (at M t.r) →
      HalfWay (at M k.r) (at M k.p) (at M t.r) (at M t.p) → ShapedLike M t k
  turned : HalfWay (at M k.p) (at M k.q) (at M t.q) (at M t.p) → HalfWay (at M k.q) (at M k.r) (at M t.r) (at M t.q) →
      HalfWay (at M k.r) (at M k.p) (at M t.p) (at M t.r) → ShapedLike M t k

-- ---- the proof: A halves E–C and B halves E–D, so A to B is half of C to D

own : (P : Place) → Middle P P P
own P = record { x-middle = refl; y-middle = refl }

flip : {N A B : Place} → Middle N A B → Middle N B A
flip {A = A} {B = B} h = record { x-middle = h.x-middle ∙ +ℤ_comm A.x B.x; y-middle = h.y-middle ∙ +ℤ_comm A.y B.y }

half : (a b c d e : ℤ) → a +ℤ a ≡ e +ℤ c → b +ℤ b ≡ e +ℤ d → pos 2 *ℤ (b -ℤ a) ≡ d -ℤ c
half a b c d e f g =
    ring2 (λ a b. (K (pos 2) :* (b :- a), (b :+ b) :- (a :+ a))) a b tt
    ∙ (λ i. g i -ℤ f i)
    ∙ ring3 (λ c d e. ((e :+ d) :- (e :+ c), d :- c)) c d e tt

across : {A B C D E : Place} → Middle A E C → Middle B E D → HalfWay A B C D
across {A} {B} {C} {D} {E} f g = record {
  x-half = half A.x B.x C.x D.x E.x f.x-middle g.x-middle;
  y-half = half A.y B.y C.y D.y E.y f.y-middle g.y-middle;
}

-- CHILDREN ARE SHAPED LIKE THE FATHER: all four rows of a red cut.
pub red-shaped : (M : Mesh) (t : Tri) (m u v : ℕ) → Centred M t (Some m) (Some u) (Some v) → All (ShapedLike M t) (parts (red t (Some m) (Some u) (Some v)))
red-shaped M t m u v h =
    let p = own (at M t.p) in
    let q = own (at M t.q) in
    let r = own (at M t.r) in
    cons (upright (across p h.on-pq) (across h.on-pq (flip h.on-rp)) (across (flip h.on-rp) p))
    (cons (upright (across (flip h.on-pq) q) (across q h.on-qr) (across h.on-qr (flip h.on-pq)))
    (cons (upright (across h.on-rp (flip h.on-qr)) (across (flip h.on-qr) r) (across r h.on-rp))
    (cons (turned (across (flip h.on-qr) h.on-rp) (across (flip h.on-rp) h.on-pq) (across (flip h.on-pq) h.on-qr)) nil)))
