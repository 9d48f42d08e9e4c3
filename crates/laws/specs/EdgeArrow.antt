-- A row holds an edge exactly if it holds one of its two arrows. Assumes nothing.
use Rattle.std.specs.Prelude.{Bool, true, false, ◌||◌, ◌≡◌, refl, ℕ, min, max}
use Rattle.std.proofs.Common.{arith}
use Rattle.std.proofs.Math.Decide.{ℕ_discrete}
use Rattle.lists.specs.ListsLaw.{or_left, or_right, both_ways}
use Rattle.meaning.specs.declared.Tri.{Tri}
use Rattle.meaning.specs.Mesh.{edge, arrow, same_edge, same_arrow, holds_arrow, holds_edge}
use Rattle.laws.specs.Edges.{arrow-eq, eq-arrow}

-- two edges are the same one way round or the other
pub same_edge-ends : (x y c d : ℕ) → same_edge (edge x y) (edge c d) ≡ same_arrow (arrow x y) (arrow c d) || same_arrow (arrow y x) (arrow c d)
same_edge-ends x y c d = both_ways (same_edge (edge x y) (edge c d)) _ there back
  where
    there : same_edge (edge x y) (edge c d) ≡ true → same_arrow (arrow x y) (arrow c d) || same_arrow (arrow y x) (arrow c d) ≡ true
    there e = let h = arrow-eq (arrow (min x y) (max x y)) (min c d) (max c d) e in go (ℕ_discrete x c) h.0 h.1
      where
        go : Dec (x ≡ c) → min x y ≡ min c d → max x y ≡ max c d → same_arrow (arrow x y) (arrow c d) || same_arrow (arrow y x) (arrow c d) ≡ true
        go (yes q) a b = or_left (same_arrow (arrow y x) (arrow c d)) (eq-arrow (arrow x y) c d q (omega arith))
        go (no q) a b = or_right (same_arrow (arrow x y) (arrow c d)) (eq-arrow (arrow y x) c d (omega arith) (omega arith))

    back : same_arrow (arrow x y) (arrow c d) || same_arrow (arrow y x) (arrow c d) ≡ true → same_edge (edge x y) (edge c d) ≡ true
    back e = go (same_arrow (arrow x y) (arrow c d)) refl e
      where
        go : (b : Bool) → same_arrow (arrow x y) (arrow c d) ≡ b → b || same_arrow (arrow y x) (arrow c d) ≡ true → same_edge (edge x y) (edge c d) ≡ true
        go true q e = let h = arrow-eq (arrow x y) c d q in eq-arrow (arrow (min x y) (max x y)) (min c d) (max c d) (omega arith) (omega arith)
        go false q e = let h = arrow-eq (arrow y x) c d e in eq-arrow (arrow (min x y) (max x y)) (min c d) (max c d) (omega arith) (omega arith)

shuffle : (a b c d e f : Bool) → (b || e) || ((a || d) || ((c || f) || false)) ≡ (a || (b || (c || false))) || (d || (e || (f || false)))
shuffle true true c d e f = refl
shuffle false true c d e f = refl
shuffle true false c d true f = refl
shuffle true false c d false f = refl
shuffle false false true d true f = refl
shuffle false false false true true f = refl
shuffle false false false false true f = refl
shuffle false false true true false f = refl
shuffle false false true false false f = refl
shuffle false false false true false f = refl
shuffle false false false false false f = refl

pub edge-arrows : (x y : ℕ) (w : Tri) → holds_edge (edge x y) w ≡ holds_arrow (arrow x y) w || holds_arrow (arrow y x) w
edge-arrows x y w =
    rw (same_edge-ends x y w.q w.r, same_edge-ends x y w.p w.q, same_edge-ends x y w.r w.p)
    (shuffle
    (same_arrow (arrow x y) (arrow w.p w.q)) (same_arrow (arrow x y) (arrow w.q w.r)) (same_arrow (arrow x y) (arrow w.r w.p))
    (same_arrow (arrow y x) (arrow w.p w.q)) (same_arrow (arrow y x) (arrow w.q w.r)) (same_arrow (arrow y x) (arrow w.r w.p)))
