-- What a pair of rows draws does not depend on which row comes first, nor on where a row begins. Assumes nothing.
use Rattle.std.specs.Prelude.{Bool, false, ◌&&◌, ◌||◌, List, ◌≡◌, ℕ, eqb, pos}
use Rattle.std.proofs.Math.Bool.{and_comm, and_assoc, or_comm, or_assoc}
use Rattle.std.proofs.Common.{sym, ◌∙◌, eqb-true, eq-eqb}
use Rattle.std.specs.Int.Signed.{le_z}
use Rattle.lists.specs.Lists.{any, cases}
use Rattle.lists.specs.ListsLaw.{both_ways}
use Rattle.lists.specs.SearchLaw.{or-three}
use Rattle.meaning.specs.declared.Place.{Place}
use Rattle.meaning.specs.declared.Tri.{Tri}
use Rattle.meaning.specs.Mesh.{arrow, turn}
use Rattle.meaning.specs.Tables.{row_at}
use Rattle.meaning.specs.Proper.{none_left, parted_by, apart}
use Rattle.laws.specs.Weights.{turned}
use Rattle.pairs.specs.Pair.{shape_by, corners, on_side, touches, grave, grave_at}

or-turned-left : (a b c : Bool) → b || c || a ≡ a || b || c
or-turned-left a b c = or_comm (b || c) a ∙ sym (or_assoc a b c)

or_turned : (a b c : Bool) → b || (c || (a || false)) ≡ a || (b || (c || false))
or_turned a b c = sym (or-three b c a) ∙ or-turned-left a b c ∙ or-three a b c

and-turned-left : (a b c : Bool) → b && c && a ≡ a && b && c
and-turned-left a b c = and_comm (b && c) a ∙ sym (and_assoc a b c)

eqb-sym : (a b : ℕ) → eqb a b ≡ eqb b a
eqb-sym a b = both_ways (eqb a b) (eqb b a) (λ h. eq-eqb b a (sym (eqb-true a b h))) (λ h. eq-eqb a b (sym (eqb-true b a h)))

module _ (P : ℕ → Place) where
  -- either row may come first
  pub grave-sym : (t u : Tri) → grave P t u ≡ grave P u t
  unfolding grave apart
  grave-sym t u =
      let e = or_comm (touches P t u) (touches P u t) in
      let f = or_comm (parted_by (shape_by P t) (shape_by P u)) (parted_by (shape_by P u) (shape_by P t)) in
      (λ i. cases (e i) 2 (cases (f i) 0 1))

  pub grave-at-sym : (rows : List ℕ) (i j : ℕ) → grave_at P rows i j ≡ grave_at P rows j i
  unfolding grave_at
  grave-at-sym rows i j =
      let e = eqb-sym i j in
      let f = grave-sym (row_at rows i) (row_at rows j) in
      (λ k. cases (e k) 0 (f k))

  module _ (t u : Tri) where
    touches-turned : touches P (turned t) u ≡ touches P t u
    unfolding touches
    touches-turned = or_turned (any (on_side P (arrow t.p t.q)) (corners u)) (any (on_side P (arrow t.q t.r)) (corners u)) (any (on_side P (arrow t.r t.p)) (corners u))

    corners-turned : (x y : ℕ) → any (on_side P (arrow x y)) (corners (turned t)) ≡ any (on_side P (arrow x y)) (corners t)
    corners-turned x y = or_turned (on_side P (arrow x y) t.p) (on_side P (arrow x y) t.q) (on_side P (arrow x y) t.r)

    touched-turned : touches P u (turned t) ≡ touches P u t
    unfolding touches
    touched-turned = rw (corners-turned u.p u.q, corners-turned u.q u.r, corners-turned u.r u.p)

    parts-turned : parted_by (shape_by P (turned t)) (shape_by P u) ≡ parted_by (shape_by P t) (shape_by P u)
    unfolding parted_by
    parts-turned = or-turned-left (none_left (P t.p) (P t.q) (shape_by P u)) (none_left (P t.q) (P t.r) (shape_by P u)) (none_left (P t.r) (P t.p) (shape_by P u))

    none-left-turned : (A B : Place) → none_left A B (shape_by P (turned t)) ≡ none_left A B (shape_by P t)
    unfolding none_left
    none-left-turned A B = and-turned-left (le_z (turn A B (P t.p)) (pos 0)) (le_z (turn A B (P t.q)) (pos 0)) (le_z (turn A B (P t.r)) (pos 0))

    parted-turned : parted_by (shape_by P u) (shape_by P (turned t)) ≡ parted_by (shape_by P u) (shape_by P t)
    unfolding parted_by
    parted-turned = rw (none-left-turned (P u.p) (P u.q), none-left-turned (P u.q) (P u.r), none-left-turned (P u.r) (P u.p))

    pub grave-turned : grave P (turned t) u ≡ grave P t u
    unfolding grave apart
    grave-turned = rw (touches-turned, touched-turned, parts-turned, parted-turned)
