-- Laws of single steps, which the check finds alone today: one arrow beside another, the turns of the loops over all arrows, and the
-- parts of what is read and listed. Assumes nothing.
use Rattle.std.specs.Prelude.{Bool, List, ◌≡◌, ℕ, ◌+◌, ◌*◌, ◌≤◌, ◌<◌, ℤ, pos, ◌+ℤ◌, ◌*ℤ◌, set, Option, Some, None, is_some}
use Rattle.std.proofs.Math.Bool.{true, false, not}
use Rattle.std.proofs.Math.Path.{refl, sym, ap}
use Rattle.std.proofs.Common.{◌∙◌}
use Rattle.std.specs.Int.Signed.{lt_z}
use Rattle.whole.specs.Ring.{K, ◌:+◌, ◌:*◌, ring2}
use Rattle.lists.specs.Search.{lowest}
use Rattle.lists.specs.SearchLaw.{lowest-here, lowest-none}
use Rattle.lists.specs.ItemsLaw.{sum_to, sum-none, sum_more}
use Rattle.meaning.specs.declared.Place.{Place}
use Rattle.meaning.specs.Mesh.{arrow}
use Rattle.tables.specs.Arrow.{arrow_at}
use Rattle.border.specs.Clear.{steep}
use Rattle.border.specs.Under.{key}
use Rattle.outline.specs.declared.End.{End}
use Rattle.outline.specs.declared.Edge.{Edge}
use Rattle.outline.specs.LookLaw.{look_far}
use Rattle.outline.specs.TurnsLaw.{look-edge, arrow-met, arrow-not}
use Rattle.outline.specs.Listed.{is_border, set_arrow}
use Rattle.outline.specs.Seen.{end_by, edge_in, Close, far, meet, rises_under, look, falling, look_at, is_met, fine, not_free, all_free}

-- ---- the code's answers, in the form of needs

module _ (e g : Edge) (x : Bool) (d : x ≡ far e g) where
  pub look-far : Close e → Close g → x ≡ true → Some 1 ≡ look e g
  look-far ce cg h = sym (look_far e g ce cg (sym d ∙ h))

module _ (e g : Edge) (m : Bool) (d : m ≡ meet e g) where
  pub look-meet : m ≡ true → None ≡ look e g
  unfolding look
  look-meet h = rw (← d, h)

  module _ (h : m ≡ false) (x : Bool) (f : x ≡ rises_under e g.from g.to) where
    pub look-rises : x ≡ true → Some 2 ≡ look e g
    unfolding look
    look-rises i = rw (← d, h, ← f, i)

    module _ (i : x ≡ false) (y : Bool) (k : y ≡ rises_under e g.to g.from) where
      pub look-falls : y ≡ true → Some 0 ≡ look e g
      unfolding look
      look-falls j = rw (← d, h, ← f, i, ← k, j)

      pub look_none : y ≡ false → Some 1 ≡ look e g
      unfolding look
      look_none j = rw (← d, h, ← f, i, ← k, j)

module _ (e : Edge) (x : Bool) (d : x ≡ lt_z e.to.key e.from.key) where
  pub falls-yes : x ≡ true → 1 ≡ falling e
  unfolding falling
  falls-yes h = rw (← d, h)

  pub falls-not : x ≡ false → 0 ≡ falling e
  unfolding falling
  falls-not h = rw (← d, h)

-- ---- the arrows beside one: `three` is the look that counts nothing, for an arrow that is met

pub look-three : (P : ℕ → Place) (s : List ℕ) (e g : Edge) (j : ℕ) (r : Option ℕ) → g ≡ edge_in P s j → r ≡ look e g → r ≡ look_at P s e j
look-three = look-edge

module _ (f : ℕ → Option ℕ) (b k j sum : ℕ) (inv : lowest (is_met f) j b ≡ lowest (is_met f) 0 b) where
  pub three-met : (r : Option ℕ) → j < b → r ≡ f j → r ≡ None → false ≡ fine f b k
  three-met r h e t = arrow-met f b k j sum inv h (sym e ∙ t)

  pub three-not : (r : Option ℕ) → j < b → r ≡ f j → (r ≡ None → ⊥) → lowest (is_met f) (j + 1) b ≡ lowest (is_met f) 0 b
  three-not (Some a) h e t = arrow-not f b k j sum inv a h (sym e)
  three-not None h e t = absurd (t refl)

pub sum-start : (f : ℕ → ℕ) → 0 ≡ sum_to f 0
sum-start f = sym (sum-none f)

-- of any numbers; `sum-on` is of what looks count
pub sum-next : (f : ℕ → ℕ) (j sum r : ℕ) → sum ≡ sum_to f j → r ≡ f j → sum + r ≡ sum_to f (j + 1)
sum-next f j sum r e h = rw (e, h) (sym (sum_more f j))

-- ---- all arrows

module _ (P : ℕ → Place) (s : List ℕ) (b i : ℕ) (inv : lowest (not_free P s b) i b ≡ lowest (not_free P s b) 0 b) where
  pub free-not : (x : Bool) → i < b → x ≡ not_free P s b i → x ≡ true → false ≡ all_free P s b
  unfolding all_free
  free-not x h e t = ap (λ r. not (is_some r)) (lowest-here (not_free P s b) i b (lowest (not_free P s b) 0 b) x h e t inv)

  pub free_all : b ≤ i → true ≡ all_free P s b
  unfolding all_free
  free_all h = ap (λ r. not (is_some r)) (lowest-none (not_free P s b) i b (lowest (not_free P s b) 0 b) h inv)

-- ---- an end as it is read

pub key-is : (a : Place) → pos 8_388_608 *ℤ a.x +ℤ a.y ≡ key steep a
key-is a = ring2 (λ x y. (K (pos 8_388_608) :* x :+ y, K (pos 8_388_608) :* x :+ K (pos 1) :* y)) a.x a.y tt

pub end-made : (P : ℕ → Place) (k : ℕ) (a : Place) (v : ℤ) → a ≡ P k → v ≡ key steep a → ◌≡◌ {A = End} (record { node = k; place = a; key = v }) (end_by P k)
end-made P k a v e h =
    let q : v ≡ key steep (P k) = h ∙ ap (key steep) e in
    λ i. record { node = k; place = e i; key = q i }

-- ---- one arrow of the listing

pub border-found : (rows : List ℕ) (t x y : ℕ) (r : Option ℕ) (b : Bool) → r ≡ lowest (arrow_at rows y x) 0 t → b ≡ is_some r → not b ≡ is_border rows t (arrow x y)
unfolding is_border
border-found rows t x y r b e f = ap not (f ∙ ap is_some e)

pub arrow-put : (s s' s'' : List ℕ) (b x y : ℕ) → s' ≡ set s (2 * b) x → s'' ≡ set s' (2 * b + 1) y → s'' ≡ set_arrow s b x y
unfolding set_arrow
arrow-put s s' s'' b x y e f = f ∙ ap (λ (v : List ℕ). set v (2 * b + 1) y) e
