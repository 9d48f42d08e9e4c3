-- What `clear` says of a lawful mesh's border: no arrow of it meets another, and no row lies just right of one. Assumes nothing.
use Rattle.std.specs.Prelude.{Bool, true, false, ◌&&◌, ◌≢◌, ◌⊎◌, ◌≡◌, refl, ℕ, ℤ, neg_ℤ, ◌+ℤ◌, ◌-ℤ◌, ◌≤ℤ◌}
use Rattle.std.proofs.Math.Bool.{not}
use mathlib.Core.List.{List, Memᴰ}
use Rattle.std.proofs.Common.{inl, inr, ap₂, ◌∙◌, arith}
use Rattle.std.proofs.Math.Path.{sym, ap}
use Rattle.std.proofs.Math.Decide.{ℕ_discrete}
use Rattle.std.proofs.Math.IntN.{pos}
use Rattle.std.specs.Int.Signed.{lt_z}
use Rattle.std.proofs.lemmas.Bool.{not-true}
use Rattle.whole.specs.Diff.{onℤ, sumℤ}
use Rattle.whole.specs.Order.{le_of_eq}
use Rattle.whole.specs.Ring.{K, ◌:+◌, ring4}
use Rattle.whole.specs.Tests.{lt-lt_z}
use Rattle.lists.specs.Lists.{any, All}
use Rattle.lists.specs.ListsLaw.{clash, and_both, and_left, and_right, or_left, or_right, or_no, All-at, All-of, all_yes, any_none}
use Rattle.meaning.specs.declared.Place.{Place}
use Rattle.meaning.specs.Mesh.{Mesh, Arrow, at, turn}
use Rattle.meaning.specs.Lawful.{Lawful}
use Rattle.meaning.specs.Proper.{StrictlyInside, facing, left}
use Rattle.pairs.specs.Pair.{on_side}
use Rattle.laws.specs.Area.{turn-from, turn-to}
use Rattle.laws.specs.Star.{same_z-eq}
use Rattle.pairs.specs.OnSide.{is-on}
use Rattle.border.specs.Places.{apart-of-turn, facing-from, facing-to}
use Rattle.border.specs.Signs.{zero-of-equal, not-lt, lt-zero}
use Rattle.border.specs.Sums.{one}
use Rattle.border.specs.Under.{Form, left_expr, key, past, before, under, left-swapped}
use Rattle.border.specs.Cancel.{border}
use Rattle.border.specs.Count.{under_arrow}
use Rattle.border.specs.Beside.{border-split}
use Rattle.border.specs.Nearest.{upward, Slanted, middle_of, Bare, others_at}
use Rattle.border.specs.Meet.{Opposite, down, upwards, Cross}
use Rattle.border.specs.Quiet.{NoTouch, Quiet, border-slanted, all-lone}
use Rattle.border.specs.Clear.{steep, middle, opposite, crosses, meets, under_middle, right_free, clear}
use Rattle.border.specs.Nudge.{row-upright}
use Rattle.border.specs.Corners.{turned-arrow, turned-upright}
use Rattle.border.specs.Crowd.{border-row}

-- ---- the tests

module _ (P : ℕ → Place) (es : List Arrow) (c : clear P es ≡ true) {e : Arrow} (i : Memᴰ e es) where
  both-tests : not (any (meets P e) es) && right_free P es e ≡ true
  unfolding clear
  both-tests = All-at (all_yes (λ e. not (any (meets P e) es) && right_free P es e) es c) i

  neither : {g : Arrow} → Memᴰ g es → (on_side P e g.from ≡ false) × (crosses (P e.from) (P e.to) (P g.from) (P g.to) ≡ false)
  unfolding meets
  neither {g} j =
      or_no (on_side P e g.from) (crosses (P e.from) (P e.to) (P g.from) (P g.to))
      (All-at (any_none (meets P e) es (not-true (any (meets P e) es) (and_left (not (any (meets P e) es)) (right_free P es e) both-tests))) j)

  -- no arrow of a clear border begins on another but in an end of it
  clear-untouched : {g : Arrow} → Memᴰ g es → on_side P e g.from ≡ false
  clear-untouched j = (neither j).0

  -- and none crosses another
  clear-uncrossed : {g : Arrow} → Memᴰ g es → ¬ Cross (P e.from) (P e.to) (P g.from) (P g.to)
  clear-uncrossed j h = clash (sym (and_both (opposite-yes h.ends-of-second) (opposite-yes h.ends-of-first)) ∙ (neither j).1)
    where
      opposite-yes : {x y : ℤ} → Opposite x y → opposite x y ≡ true
      opposite-yes {x} {y} (down a b) = or_right (lt_z x (pos 0) && lt_z (pos 0) y) (and_both (lt-lt_z (pos 0) x a) (lt-lt_z y (pos 0) b))
      opposite-yes {x} {y} (upwards a b) = or_left (lt_z (pos 0) x && lt_z y (pos 0)) (and_both (lt-lt_z x (pos 0) a) (lt-lt_z (pos 0) y b))

  clear-right : under_middle P es e ≡ one (lt_z (key steep (P e.to)) (key steep (P e.from)))
  clear-right = same_z-eq (under_middle P es e) (one (lt_z (key steep (P e.to)) (key steep (P e.from)))) (and_right (not (any (meets P e) es)) (right_free P es e) both-tests)

-- an arrow does not run under its own middle
pub own-middle : (f : Form) (A B : Place) → under f A B (middle A B) ≡ pos 0
unfolding under
own-middle f A B =
    let M = middle A B in
    let there : left A B M ≡ pos 0 = ring4 (λ a b c d. (left_expr a b c d (a :+ c) (b :+ d) (K (pos 2)), K (pos 0))) A.x A.y B.x B.y tt in
    let again : left B A M ≡ pos 0 = left-swapped A B M ∙ ap neg_ℤ there in
    (λ i. one (past f A M && before f B M && lt_z (pos 0) (there i)) -ℤ one (past f B M && before f A M && lt_z (pos 0) (again i))) ∙
    ap₂ ◌-ℤ◌ (never (past f A M) (before f B M)) (never (past f B M) (before f A M))
  where
    never : (a b : Bool) → one (a && b && false) ≡ pos 0
    never true true = refl
    never true false = refl
    never false b = refl

-- an arrow that does not rise falls
pub falls : (f : Form) (m : Mesh) (e : Arrow) → Slanted f m e → lt_z (key f (at m e.to)) (key f (at m e.from)) ≡ not (upward f m e)
falls f m e n =
    let a = key f (at m e.from) in
    let b = key f (at m e.to) in
    not-lt a b (λ z. n (zero-of-equal b a (sym z))) ∙ ap not (lt-zero a b)

module _ (m : Mesh) (law : Lawful m) (c : clear (at m) (border m.tris) ≡ true) where
  -- ---- nodes and edges of the border

  module _ {e g : Arrow} (i : Memᴰ e (border m.tris)) (j : Memᴰ g (border m.tris)) where
    abbrev A : Place
    A = at m e.from

    abbrev B : Place
    B = at m e.to

    ends-apart : A ≢ B
    ends-apart =
        let (t, k, l) = border-row m i in
        let (z, T) = turned-arrow l in
        apart-of-turn A B (at m z) (turned-upright m T (row-upright m law k)).pqr

    -- the start of g on e is an end of e
    end_of : turn A B (at m g.from) ≡ pos 0 → facing A B (at m g.from) ≤ℤ pos 0 → (g.from ≡ e.from) ⊎ (g.from ≡ e.to)
    end_of t h = go (ℕ_discrete g.from e.from) (ℕ_discrete g.from e.to)
      where
        go : Dec (g.from ≡ e.from) → Dec (g.from ≡ e.to) → (g.from ≡ e.from) ⊎ (g.from ≡ e.to)
        go (yes p) q = inl p
        go (no p) (yes q) = inr q
        go (no p) (no q) = clash (sym (is-on (at m) e.from e.to g.from (record { not-from = p; not-to = q; on_line = t; within = h })) ∙ clear-untouched (at m) (border m.tris) c i j)

    -- at the place of an end it is that end
    at_place : (P : Place) → at m g.from ≡ P → turn A B P ≡ pos 0 → facing A B P ≡ pos 0 → (g.from ≡ e.from) ⊎ (g.from ≡ e.to)
    at_place P w t h = end_of (ap (turn A B) w ∙ t) (le_of_eq (ap (facing A B) w ∙ h))

    start-off : NoTouch m e g.from
    start-off = record {
      not-inside = λ s. within s (end_of s.on_line (let b = s.between in omega (arith, onℤ)));
      at-start = λ w. first w (at_place A w (turn-from A B) (facing-from A B));
      at-end = λ w. second w (at_place B w (turn-to A B) (facing-to A B));
    }
      where
        outside : (P : Place) → at m g.from ≡ P → facing A B P ≡ pos 0 → StrictlyInside A B (at m g.from) → ⊥
        outside P w h s = let k = ap (facing A B) w in omega (arith, onℤ, s.between)

        within : StrictlyInside A B (at m g.from) → (g.from ≡ e.from) ⊎ (g.from ≡ e.to) → ⊥
        within s (inl p) = outside A (ap (at m) p) (facing-from A B) s
        within s (inr p) = outside B (ap (at m) p) (facing-to A B) s

        first : at m g.from ≡ A → (g.from ≡ e.from) ⊎ (g.from ≡ e.to) → g.from ≡ e.from
        first w (inl p) = p
        first w (inr p) = absurd (ends-apart (sym w ∙ ap (at m) p))

        second : at m g.from ≡ B → (g.from ≡ e.from) ⊎ (g.from ≡ e.to) → g.from ≡ e.to
        second w (inl p) = absurd (ends-apart (sym (ap (at m) p) ∙ w))
        second w (inr p) = p

  -- NO ARROW MEETS ANOTHER.
  pub clear-quiet : Quiet m
  clear-quiet = record {
    no_touch = λ e g i j. start-off i j;
    no-cross = λ e g i j. clear-uncrossed (at m) (border m.tris) c i j;
  }

  -- ---- the right of an arrow

  slanted : All (Slanted steep m) (border m.tris)
  slanted = border-slanted m law

  nothing_right : {e : Arrow} → Memᴰ e (border m.tris) → others_at steep m m.tris e ≡ one (not (upward steep m e))
  unfolding under_middle
  nothing_right {e} i =
      rest (under_arrow steep m (middle_of m e) e) (others_at steep m m.tris e) (own-middle steep (at m e.from) (at m e.to)) ∙
      sym (border-split m.tris law.no_twice e i (under_arrow steep m (middle_of m e))) ∙
      clear-right (at m) (border m.tris) c i ∙ ap one (falls steep m e (All-at slanted i))
    where
      rest : (a b : ℤ) → a ≡ pos 0 → b ≡ a +ℤ b
      rest a b z = omega (arith, onℤ, sumℤ a b)

  -- AND NO ROW LIES JUST RIGHT OF ONE.
  pub clear-bare : All (Bare steep m m.tris) (border m.tris)
  clear-bare =
      let lone = all-lone m law clear-quiet in
      All-of (border m.tris) (λ e i. record { lone = All-at lone i; nothing = nothing_right i })
