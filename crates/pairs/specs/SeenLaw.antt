-- Rows as the code sees them have the answers of Pair.antt. Assumes nothing.
use Rattle.std.specs.Prelude.{◌≡◌, refl, Bool, not, ◌&&◌, ◌||◌, List, ℕ, ℤ, pos}
use Rattle.std.proofs.Math.Path.{sym}
use Rattle.std.proofs.Common.{ap, subst, arith}
use Rattle.std.proofs.Math.Bool.{true, false}
use Rattle.std.specs.Int.Signed.{le_z, lt_z}
use Rattle.whole.specs.Diff.{onℤ}
use Rattle.whole.specs.Tests.{tests}
use Rattle.lists.specs.Lists.{any, cases}
use Rattle.lists.specs.SearchLaw.{or-three}
use Rattle.meaning.specs.declared.Place.{Place}
use Rattle.meaning.specs.declared.Tri.{Tri}
use Rattle.meaning.specs.Mesh.{arrow, turn}
use Rattle.meaning.specs.Tables.{place_at}
use Rattle.meaning.specs.Proper.{none_left, parted_by, apart}
use Rattle.laws.specs.Meshes.{Standing}
use Rattle.pairs.specs.declared.Seen.{Seen}
use Rattle.pairs.specs.Pair.{shape_by, corners, on_side, touches, grave}
use Rattle.pairs.specs.Seen.{seen_by, corner_by, Near, is_end, left_of, not_beyond, is_on, is_on_some, some_left, meets, crosses, grave_seen}

-- ---- a row with its places

pub near-seen : (nodes : List ℤ) (w : Tri) (t : Seen) → t ≡ seen_by (place_at nodes) w → Standing nodes w → Near t
unfolding seen_by
near-seen nodes w t e s = subst Near (sym e) (record { near_p = s.at_p.range.place_in; near-q = s.at-q.range.place_in; near-r = s.at-r.range.place_in })

-- ---- two rows

le_not_lt : (z : ℤ) → le_z z (pos 0) ≡ not (lt_z (pos 0) z)
le_not_lt z = go (lt_z (pos 0) z) refl
  where
    go : (b : Bool) → lt_z (pos 0) z ≡ b → le_z z (pos 0) ≡ not b
    go true h = omega (arith, onℤ, tests)
    go false h = omega (arith, onℤ, tests)

none-of-three : (a b c : Bool) → not a && not b && not c ≡ not (a || b || c)
none-of-three true b c = refl
none-of-three false true c = refl
none-of-three false false c = refl

some-of-three : (a b c : Bool) → not a || not b || not c ≡ not (a && b && c)
some-of-three true true c = refl
some-of-three true false c = refl
some-of-three false b c = refl

module _ (P : ℕ → Place) where
  side-is : (x y : ℕ) (u : Tri) → any (on_side P (arrow x y)) (corners u) ≡ is_on_some (corner_by P x) (corner_by P y) (seen_by P u)
  unfolding is_on_some seen_by is_on is_end not_beyond
  side-is x y u = sym (or-three (on_side P (arrow x y) u.p) (on_side P (arrow x y) u.q) (on_side P (arrow x y) u.r))

  touches-is : (t u : Tri) → touches P t u ≡ meets (seen_by P t) (seen_by P u)
  unfolding touches meets seen_by
  touches-is t u =
      rw (side-is t.p t.q u, side-is t.q t.r u, side-is t.r t.p u)
      (sym
      (or-three (is_on_some (corner_by P t.p) (corner_by P t.q) (seen_by P u)) (is_on_some (corner_by P t.q) (corner_by P t.r) (seen_by P u))
      (is_on_some (corner_by P t.r) (corner_by P t.p) (seen_by P u))))

  none-left-is : (x y : ℕ) (u : Tri) → none_left (P x) (P y) (shape_by P u) ≡ not (some_left (corner_by P x) (corner_by P y) (seen_by P u))
  unfolding none_left some_left left_of seen_by
  none-left-is x y u =
      let p = turn (P x) (P y) (P u.p) in
      let q = turn (P x) (P y) (P u.q) in
      let r = turn (P x) (P y) (P u.r) in
      rw (le_not_lt p, le_not_lt q, le_not_lt r) (none-of-three (lt_z (pos 0) p) (lt_z (pos 0) q) (lt_z (pos 0) r))

  parted-is : (t u : Tri) → parted_by (shape_by P t) (shape_by P u) ≡ not (crosses (seen_by P t) (seen_by P u))
  unfolding parted_by crosses seen_by
  parted-is t u =
      rw (none-left-is t.p t.q u, none-left-is t.q t.r u, none-left-is t.r t.p u)
      (some-of-three (some_left (corner_by P t.p) (corner_by P t.q) (seen_by P u)) (some_left (corner_by P t.q) (corner_by P t.r) (seen_by P u))
      (some_left (corner_by P t.r) (corner_by P t.p) (seen_by P u)))

  neither : (a b : Bool) → ◌≡◌ {A = ℕ} (cases (not a || not b) 0 1) (cases (a && b) 1 0)
  neither true true = refl
  neither true false = refl
  neither false b = refl

  -- as the code sees the rows, the answer is the same
  pub seen_same : (t u : Tri) → grave_seen (seen_by P t) (seen_by P u) ≡ grave P t u
  unfolding grave_seen grave apart
  seen_same t u =
      rw (touches-is t u, touches-is u t, parted-is t u, parted-is u t)
      (sym (ap (cases (meets (seen_by P t) (seen_by P u) || meets (seen_by P u) (seen_by P t)) 2) (neither (crosses (seen_by P t) (seen_by P u)) (crosses (seen_by P u) (seen_by P t)))))
