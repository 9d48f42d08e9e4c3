-- The border of a lawful mesh is clear exactly where the mesh is proper. Assumes nothing.
use Rattle.std.specs.Prelude.{true, false, ◌↔◌, ◌≢◌, ◌≡◌, ℕ, ◌<◌, ℤ, ◌+ℤ◌, length, ◌≤ℤ◌, ◌<ℤ◌}
use Rattle.std.proofs.Math.Bool.{not, ◌||◌}
use mathlib.Core.List.{Memᴰ}
use Rattle.std.proofs.Common.{sym, subst, ◌∙◌, arith}
use Rattle.std.proofs.Math.Path.{ap, ap₂}
use Rattle.std.proofs.Math.Decide.{dec_lt}
use Rattle.std.proofs.Math.IntN.{pos}
use Rattle.whole.specs.Diff.{onℤ, sumℤ}
use Rattle.whole.specs.Order.{le_of_eq}
use Rattle.lists.specs.Lists.{All}
use Rattle.lists.specs.ListsLaw.{and_both, All-at, All-of, yes-all}
use Rattle.lists.specs.MembersLaw.{none_any}
use Rattle.meaning.specs.declared.Tri.{Tri}
use Rattle.meaning.specs.Mesh.{Mesh, Arrow, tri, arrows, at, turn}
use Rattle.meaning.specs.Lawful.{Named, Lawful}
use Rattle.meaning.specs.Proper.{Proper}
use Rattle.laws.specs.RowMean.{CornerOf, is-p, is-q, is-r}
use Rattle.laws.specs.Area.{turn-from, turn-to}
use Rattle.laws.specs.Star.{eq-same_z}
use Rattle.border.specs.Sums.{one}
use Rattle.border.specs.Cancel.{border}
use Rattle.border.specs.Count.{under_arrow, areas-above}
use Rattle.border.specs.Beside.{border-split}
use Rattle.border.specs.Nearest.{middle_of, Bare, others_at}
use Rattle.border.specs.Bare.{depth-one, all-bare}
use Rattle.border.specs.Meet.{Opposite, down, upwards, Cross}
use Rattle.border.specs.Quiet.{NoTouch, Quiet, all-lone, border-slanted}
use Rattle.border.specs.Clear.{steep, meets, under_middle, right_free, clear}
use Rattle.border.specs.Nudge.{Single, not-both, row-upright, nudged-inside}
use Rattle.border.specs.Corners.{Turned, from-p, from-q, from-r, turned-arrow, turned-upright, turned-inside, turned-corner}
use Rattle.border.specs.Crowd.{border-row}
use Rattle.border.proofs.ClearLaw.{own-middle, falls}
use Rattle.border.specs.Crossing.{cross-share}
use Rattle.border.proofs.Unmet.{not-on-side, not-crossing}
use Rattle.border.proofs.Safe.{border-clear}

-- ---- the arrows of a row

turned-ends : {t : Tri} {x y z : ℕ} → Turned t x y z → CornerOf t x × CornerOf t y
turned-ends from-p = (is-p, is-q)
turned-ends from-q = (is-q, is-r)
turned-ends from-r = (is-r, is-p)

corner-below : {n : ℕ} {t : Tri} {k : ℕ} → Named n t → CornerOf t k → k < n
corner-below h is-p = h.p-below
corner-below h is-q = h.q-below
corner-below h is-r = h.r-below

-- no corner of a triangle is right of its side
corner-not-right : (m : Mesh) {x y z k : ℕ} → pos 0 <ℤ turn (at m x) (at m y) (at m z) → CornerOf (tri x y z) k → pos 0 ≤ℤ turn (at m x) (at m y) (at m k)
corner-not-right m {x} {y} h is-p = le_of_eq (sym (turn-from (at m x) (at m y)))
corner-not-right m {x} {y} h is-q = le_of_eq (sym (turn-to (at m x) (at m y)))
corner-not-right m h is-r = omega (arith, onℤ)

module _ (m : Mesh) (law : Lawful m) (proper : Proper m) where
  single : Single m
  single s w off = depth-one m proper.none-shared s w

  -- two nodes at one place are one
  one-node : (j k : ℕ) → j < length m.nodes → k < length m.nodes → at m j ≡ at m k → j ≡ k
  one-node j k h i e = go (dec_lt j k) (dec_lt k j)
    where
      go : Dec (j < k) → Dec (k < j) → j ≡ k
      go (yes l) r = absurd (proper.places-differ j k l i e)
      go (no l) (yes r) = absurd (proper.places-differ k j r h (sym e))
      go (no l) (no r) = omega arith

  -- ---- no border arrow meets another

  module _ {e g : Arrow} (i : Memᴰ e (border m.tris)) (j : Memᴰ g (border m.tris)) where
    abbrev t : Tri
    t = (border-row m i).0

    t-row : Memᴰ t m.tris
    t-row = (border-row m i).1

    e-side : Memᴰ e (arrows t)
    e-side = (border-row m i).2

    abbrev u : Tri
    u = (border-row m j).0

    u-row : Memᴰ u m.tris
    u-row = (border-row m j).1

    e-turned : Turned t e.from e.to (turned-arrow e-side).0
    e-turned = (turned-arrow e-side).1

    g-turned : Turned u g.from g.to (turned-arrow (border-row m j).2).0
    g-turned = (turned-arrow (border-row m j).2).1

    start-free : NoTouch m e g.from
    start-free =
        let here = corner-below (All-at law.named u-row) (turned-ends g-turned).0 in
        let (from, to) = turned-ends e-turned in
        record {
          not-inside = All-at (All-at (proper.none_inside g.from here) t-row) e-side;
          at-start = one-node g.from e.from here (corner-below (All-at law.named t-row) from);
          at-end = one-node g.from e.to here (corner-below (All-at law.named t-row) to);
        }

    -- two sides of one row do not cross
    one-row : Cross (at m e.from) (at m e.to) (at m g.from) (at m g.to) → t ≢ u
    one-row cross w =
        let (from, to) = turned-ends (subst (λ v. Turned v g.from g.to (turned-arrow (border-row m j).2).0) (sym w) g-turned) in
        let positive = (turned-upright m e-turned (row-upright m law t-row)).pqr in
        never cross.ends-of-second (corner-not-right m positive (turned-corner e-turned g.from from)) (corner-not-right m positive (turned-corner e-turned g.to to))
      where
        never : {x y : ℤ} → Opposite x y → pos 0 ≤ℤ x → pos 0 ≤ℤ y → ⊥
        never (down a b) h k = omega (arith, onℤ)
        never (upwards a b) h k = omega (arith, onℤ)

    uncrossed : ¬ Cross (at m e.from) (at m e.to) (at m g.from) (at m g.to)
    uncrossed cross =
        let a = row-upright m law t-row in
        let b = row-upright m law u-row in
        let s = cross-share (at m (turned-arrow e-side).0) (at m (turned-arrow (border-row m j).2).0) (turned-upright m e-turned a).pqr (turned-upright m g-turned b).pqr cross in
        not-both m law single s.point s.weight t-row u-row (one-row cross)
        (nudged-inside a s.point (turned-inside m s.point e-turned s.in-first)) (nudged-inside b s.point (turned-inside m s.point g-turned s.in-second))

    met-not : meets (at m) e g ≡ false
    unfolding meets
    met-not = ap₂ ◌||◌ (not-on-side steep m e g.from (All-at (border-slanted m law) i) start-free) (not-crossing (at m e.from) (at m e.to) (at m g.from) (at m g.to) uncrossed)

  quiet : Quiet m
  quiet = record { no_touch = λ e g i j. start-free i j; no-cross = λ e g i j. uncrossed i j }

  -- ---- and no row lies just right of one

  bare : All (Bare steep m m.tris) (border m.tris)
  bare =
      all-bare steep one-across m (areas-above m law) law.no_twice (all-lone m law quiet) proper.none-shared
    where
      one-across : steep.across ≢ pos 0
      one-across e = omega (arith, onℤ)

  right-free : {e : Arrow} → Memᴰ e (border m.tris) → right_free (at m) (border m.tris) e ≡ true
  unfolding under_middle
  right-free {e} i =
      let own = All-at bare i in
      eq-same_z _ _ (border-split m.tris law.no_twice e i (under_arrow steep m (middle_of m e)) ∙
      rest (under_arrow steep m (middle_of m e) e) (others_at steep m m.tris e) (own-middle steep (at m e.from) (at m e.to)) ∙
      own.nothing ∙ ap one (sym (falls steep m e own.lone.slanted)))
    where
      rest : (a b : ℤ) → a ≡ pos 0 → a +ℤ b ≡ b
      rest a b z = omega (arith, onℤ, sumℤ a b)

  -- THE BORDER OF A PROPER MESH IS CLEAR.
  pub proper-clear : clear (at m) (border m.tris) ≡ true
  unfolding clear
  proper-clear = yes-all (All-of (border m.tris) (λ e i. and_both (ap not (none_any (meets (at m) e) (All-of (border m.tris) (λ g j. met-not i j)))) (right-free i)))

-- THE BORDER ALONE TELLS A PROPER MESH.
pub clear-exact : (m : Mesh) → Lawful m → (clear (at m) (border m.tris) ≡ true) ↔ Proper m
clear-exact m law = (border-clear m law, proper-clear m law)
