-- The turns of the loops over all arrows, in the form of their needs. Assumes nothing.
use Rattle.std.specs.Prelude.{Bool, List, ◌≡◌, ℕ, ◌+◌, ◌*◌, ◌≤◌, ◌<◌, ℤ, length, Option, Some, None, is_some}
use Rattle.std.proofs.Math.Bool.{true, false, not}
use Rattle.std.proofs.Math.Path.{refl, sym, ap}
use Rattle.std.proofs.Common.{◌∙◌}
use native.Mathlib.Omega.{arith}
use Rattle.std.proofs.Math.Dec.{eqb}
use Rattle.lists.specs.Lists.{cases}
use Rattle.lists.specs.Search.{lowest}
use Rattle.lists.specs.SearchLaw.{lowest-here, lowest-on, lowest-none}
use Rattle.lists.specs.ItemsLaw.{sum_to, sum_more}
use Rattle.meaning.specs.declared.Place.{Place}
use Rattle.meaning.specs.Tables.{place_at}
use Rattle.outline.specs.declared.Edge.{Edge}
use Rattle.outline.specs.SeenLaw.{close-in}
use Rattle.outline.specs.Seen.{arrow_in, edge_in, Close, EndsStand, Listing, meet, rises_under, look, falling, look_at, counted, AtMost, is_met, count_at, fine, not_free}

-- ---- what the listing says of one arrow

module _ (nodes : List ℤ) (s : List ℕ) (b : ℕ) (l : Listing nodes s b) where
  pub room_at : (j : ℕ) → j < b → 2 * j + 2 ≤ length s
  room_at j h = let r = l.room in omega arith

  pub stand-at : (j : ℕ) → j < b → EndsStand nodes (arrow_in s j)
  stand-at j h = l.stand j h

  pub close_at : (j : ℕ) (e : Edge) → j < b → e ≡ edge_in (place_at nodes) s j → Close e
  close_at j e h q = close-in nodes s j e q (l.stand j h)

pub look-edge : (P : ℕ → Place) (s : List ℕ) (e g : Edge) (j : ℕ) (r : Option ℕ) → g ≡ edge_in P s j → r ≡ look e g → r ≡ look_at P s e j
unfolding look_at
look-edge P s e g j r h i = i ∙ ap (look e) h

pub look-small : (e g : Edge) (r : Option ℕ) → r ≡ look e g → AtMost 2 r
unfolding look
look-small e g r h = rw h (go (meet e g) (rises_under e g.from g.to) (rises_under e g.to g.from))
  where
    go : (m x y : Bool) → counted (cases m None (Some (cases x 2 (cases y 0 1)))) ≤ 2
    go true x y = omega arith
    go false true y = omega arith
    go false false true = omega arith
    go false false false = omega arith

-- ---- the arrows beside one

module _ (f : ℕ → Option ℕ) (b k j sum : ℕ) (inv : lowest (is_met f) j b ≡ lowest (is_met f) 0 b) where
  pub arrow-met : j < b → f j ≡ None → false ≡ fine f b k
  unfolding fine is_met
  arrow-met h e = rw (ap is_some (sym (lowest-here (is_met f) j b (lowest (is_met f) 0 b) true h (sym (ap (λ (o : Option ℕ). not (is_some o)) e)) refl inv)))

  pub arrow-not : (r : ℕ) → j < b → f j ≡ Some r → lowest (is_met f) (j + 1) b ≡ lowest (is_met f) 0 b
  unfolding is_met
  arrow-not r h e = lowest-on (is_met f) j b (lowest (is_met f) 0 b) false h (sym (ap (λ (o : Option ℕ). not (is_some o)) e)) refl inv

  pub summed-up : sum ≡ sum_to (count_at f) j → j ≤ b → b ≤ j → (z : ℕ) → z ≡ k → eqb sum (b + z) ≡ fine f b k
  unfolding fine
  summed-up e l h z q =
      let n : j ≡ b = omega arith in
      rw (e, n, q, sym (lowest-none (is_met f) j b (lowest (is_met f) 0 b) h inv))

pub sum-on : (f : ℕ → Option ℕ) (j sum r : ℕ) → sum ≡ sum_to (count_at f) j → f j ≡ Some r → sum + r ≡ sum_to (count_at f) (j + 1)
unfolding count_at
sum-on f j sum r e h = e' ∙ sym (sum_more (count_at f) j)
  where
    e' : sum + r ≡ sum_to (count_at f) j + count_at f j
    e' = rw (e, h)

-- ---- all arrows

-- ---- one arrow, in the form of needs

pub fine-not : (P : ℕ → Place) (s : List ℕ) (b i : ℕ) (e : Edge) (x : Bool) → e ≡ edge_in P s i → x ≡ fine (look_at P s e) b (falling e) → not_free P s b i ≡ not x
unfolding not_free
fine-not P s b i e x h k = sym (ap not (k ∙ ap (λ (d : Edge). fine (look_at P s d) b (falling d)) h))
