-- Arrows as the code sees them have the answers of Clear.antt: one beside another, and all beside all. Assumes nothing.
use Rattle.std.specs.Prelude.{Bool, ◌&&◌, ◌||◌, List, [], ◌∷◌, ◌≡◌, ℤ, ◌+ℤ◌, ◌-ℤ◌, ◌*ℤ◌, ◌<ℤ◌, Option, Some, None, is_some}
use Rattle.std.proofs.Math.Bool.{true, false, not}
use Rattle.std.proofs.Math.Path.{refl, sym, ap₂}
use Rattle.std.proofs.Common.{ap, ◌∙◌}
use Prim.Native.Nat.{ℕ, zero, suc, ◌+◌, ◌<◌}
use native.Mathlib.Omega.{arith}
use borrow.Author.Tests.{eqb-true, not-true, not-false}
use Rattle.std.proofs.Math.Dec.{eqb}
use Rattle.std.proofs.Math.IntN.{pos}
use Rattle.std.specs.Int.Signed.{le_z, lt_z}
use Rattle.whole.specs.Diff.{onℤ, sumℤ}
use Rattle.whole.specs.Ring.{K, ◌:+◌, ◌:*◌, ring1, ring4, ring8}
use Rattle.whole.specs.Tests.{tests, lt_z-true, le_z-true}
use Rattle.lists.specs.Lists.{cases, any}
use Rattle.lists.specs.ListsLaw.{clash, and_both, and_left, and_right, yes-all}
use Rattle.lists.specs.PartsLaw.{not_so}
use Rattle.lists.specs.Search.{lowest, items}
use Rattle.lists.specs.SearchLaw.{lowest-nothing, not_found, any-no}
use Rattle.lists.specs.ItemsLaw.{items-snoc, items-none, sum_to, sum-none, sum_more}
use Rattle.lists.specs.ByNumberLaw.{items-all}
use Rattle.meaning.specs.declared.Place.{Place}
use Rattle.meaning.specs.Mesh.{Arrow, turn}
use Rattle.meaning.specs.Good.{same_z}
use Rattle.meaning.specs.Proper.{facing, left}
use Rattle.laws.specs.Area.{turn_expr}
use Rattle.laws.specs.Star.{same_z-eq, eq-same_z}
use Rattle.border.specs.Sums.{one, added, added-append}
use Rattle.border.specs.Under.{Form, key, key_at, rises, under, left_expr}
use Rattle.border.specs.Clear.{steep, middle, crosses, meets, under_middle, right_free, clear}
use Rattle.outline.specs.declared.End.{End}
use Rattle.outline.specs.declared.Edge.{Edge}
use Rattle.outline.specs.FarLaw.{Below, not_on, not-crossed, against, below-against}
use Rattle.outline.specs.Seen.{end_by, edge_by, arrow_in, edge_in, Near, Close, all_before, far, is_on, meet, rises_under, look, falling, look_at, counted, is_met, count_at, fine, not_free, all_free}

-- ---- keys that do not overlap

-- four tests at once
pub record Four (a b c d : Bool) : Type 0 where
  pub first : a ≡ true
  pub second : b ≡ true
  pub third : c ≡ true
  pub fourth : d ≡ true

four : (a b c d : Bool) → a && b && c && d ≡ true → Four a b c d
four a b c d h =
    let i = and_left (a && b && c) d h in
    let j = and_left (a && b) c i in
    record { first = and_left a b j; second = and_right a b j; third = and_right (a && b) c i; fourth = and_right (a && b && c) d h }

module _ (e g : Edge) (ce : Close e) (cg : Close g) where
  abbrev A : Place
  A = e.from.place

  abbrev B : Place
  B = e.to.place

  abbrev C : Place
  C = g.from.place

  abbrev D : Place
  D = g.to.place

  lower_of : (a b : End) → Near a → Near b → lt_z a.key b.key ≡ true → key steep a.place <ℤ key steep b.place
  lower_of a b f h t = lt_z-true _ _ (ap₂ lt_z (sym f.keyed) (sym h.keyed) ∙ t)

  -- a form by which the keys of g are below those of e
  record Apart : Type 0 where
    by : Form
    big : pos 0 <ℤ (by.along *ℤ by.along +ℤ by.across *ℤ by.across)
    below : Below by A B C D

  apart : far e g ≡ true → Apart
  unfolding far all_before
  apart h = go (all_before g e) refl h
    where
      go : (x : Bool) → all_before g e ≡ x → x || all_before e g ≡ true → Apart
      go true t k =
          let w = four _ _ _ _ t in
          record {
            by = steep;
            big = lt_z-true _ _ refl;
            below = record {
              ca = lower_of g.from e.from cg.from-near ce.from-near w.first;
              cb = lower_of g.from e.to cg.from-near ce.to-near w.second;
              da = lower_of g.to e.from cg.to-near ce.from-near w.third;
              db = lower_of g.to e.to cg.to-near ce.to-near w.fourth;
            };
          }
      go false t k =
          let w = four _ _ _ _ k in
          record {
            by = against steep;
            big = lt_z-true _ _ refl;
            below = below-against steep A B C D (record {
              ca = lower_of e.from g.from ce.from-near cg.from-near w.first;
              cb = lower_of e.from g.to ce.from-near cg.to-near w.second;
              da = lower_of e.to g.from ce.to-near cg.from-near w.third;
              db = lower_of e.to g.to ce.to-near cg.to-near w.fourth;
            });
          }

  far-on : Apart → is_on e g.from ≡ true → ⊥
  unfolding is_on
  far-on w h =
      let x = not (eqb g.from.node e.from.node || eqb g.from.node e.to.node) in
      let y = same_z (turn A B C) (pos 0) in
      let z = le_z (facing A B C) (pos 0) in
      not_on w.by A B C w.big (same_z-eq _ _ (and_right x y (and_left (x && y) z h))) (le_z-true _ _ (and_right (x && y) z h)) w.below.ca w.below.cb

  far-meet : far e g ≡ true → meet e g ≡ false
  unfolding meet
  far-meet h =
      let w = apart h in
      rw (not_so (is_on e g.from) (far-on w), not_so (crosses A B C D) (not-crossed w.by A B C D w.below))

  -- a key that is below both, or above both, is so for the middle
  below-middle : (a c d : ℤ) → lt_z a c ≡ true → lt_z a d ≡ true → lt_z (c +ℤ d) (a +ℤ a) ≡ false
  below-middle a c d h i = omega (arith, onℤ, tests, sumℤ c d, sumℤ a a)

  above-middle : (a c d : ℤ) → lt_z c a ≡ true → lt_z d a ≡ true → lt_z (a +ℤ a) (c +ℤ d) ≡ false
  above-middle a c d h i = omega (arith, onℤ, tests, sumℤ c d, sumℤ a a)

  and_no : (a b c : Bool) → b ≡ false → a && b && c ≡ false
  and_no true b c h = rw h
  and_no false b c h = refl

  far-rises : far e g ≡ true → (rises_under e g.from g.to ≡ false) × (rises_under e g.to g.from ≡ false)
  unfolding far all_before rises_under
  far-rises h = go (all_before g e) refl h
    where
      go : (x : Bool) → all_before g e ≡ x → x || all_before e g ≡ true → (rises_under e g.from g.to ≡ false) × (rises_under e g.to g.from ≡ false)
      go true t k =
          let w = four _ _ _ _ t in (
            and_no (lt_z (g.from.key +ℤ g.from.key) (e.from.key +ℤ e.to.key)) _ _ (below-middle g.to.key e.from.key e.to.key w.third w.fourth),
            and_no (lt_z (g.to.key +ℤ g.to.key) (e.from.key +ℤ e.to.key)) _ _ (below-middle g.from.key e.from.key e.to.key w.first w.second),
          )
      go false t k =
          let w = four _ _ _ _ k in
          (rw (above-middle g.from.key e.from.key e.to.key w.first w.third), rw (above-middle g.to.key e.from.key e.to.key w.second w.fourth))

-- arrows that are far are nothing to each other
pub look_far : (e g : Edge) → Close e → Close g → far e g ≡ true → look e g ≡ Some 1
unfolding look
look_far e g ce cg h = let r = far-rises e g ce cg h in rw (far-meet e g ce cg h, r.0, r.1)

-- ---- one arrow beside another, by Clear.antt

module _ (P : ℕ → Place) where
  meet-is : (e g : Arrow) → meet (edge_by P e) (edge_by P g) ≡ meets P e g
  unfolding meet is_on edge_by meets
  meet-is e g = refl

  twice : (k : ℤ) → k +ℤ k ≡ k *ℤ pos 2
  twice k = ring1 (λ k. (k :+ k, k :* K (pos 2))) k tt

  middle-key : (C D : Place) → key steep C +ℤ key steep D ≡ key_at steep (middle C D)
  middle-key C D =
      ring4 (λ a b c d. ((K (pos 8_388_608) :* a :+ K (pos 1) :* b) :+ (K (pos 8_388_608) :* c :+ K (pos 1) :* d), K (pos 8_388_608) :* (a :+ c) :+ K (pos 1) :* (b :+ d)))
      C.x C.y D.x D.y tt

  middle-left : (A B C D : Place) → turn A B C +ℤ turn A B D ≡ left A B (middle C D)
  middle-left A B C D =
      ring8 (λ ax ay bx by cx cy dx dy. (turn_expr ax ay bx by cx cy :+ turn_expr ax ay bx by dx dy, left_expr ax ay bx by (cx :+ dx) (cy :+ dy) (K (pos 2))))
      A.x A.y B.x B.y C.x C.y D.x D.y tt

  rises-is : (e : Arrow) (a b : ℕ) → rises_under (edge_by P e) (end_by P a) (end_by P b) ≡ rises steep (P a) (P b) (middle (P e.from) (P e.to))
  unfolding rises_under edge_by
  rises-is e a b =
      let m = middle-key (P e.from) (P e.to) in
      let p = twice (key steep (P a)) in
      let q = twice (key steep (P b)) in
      let l = middle-left (P a) (P b) (P e.from) (P e.to) in
      λ i. lt_z (p i) (m i) && lt_z (m i) (q i) && lt_z (pos 0) (l i)

  not-both : (e : Edge) (a b : End) → rises_under e a b ≡ true → rises_under e b a ≡ true → ⊥
  unfolding rises_under
  not-both e a b h i =
      let m = e.from.key +ℤ e.to.key in
      let k = a.key +ℤ a.key in
      let n = b.key +ℤ b.key in
      let p = and_left (lt_z k m) (lt_z m n) (and_left (lt_z k m && lt_z m n) _ h) in
      let q = and_right (lt_z n m) (lt_z m k) (and_left (lt_z n m && lt_z m k) _ i) in
      omega (arith, onℤ, tests)

  -- what arrow g adds under the middle of e
  abbrev adds : Arrow → Arrow → ℤ
  adds e g = under steep (P g.from) (P g.to) (middle (P e.from) (P e.to))

  module _ (e g : Arrow) where
    abbrev E : Edge
    E = edge_by P e

    abbrev a : End
    a = end_by P g.from

    abbrev b : End
    b = end_by P g.to

    weight : (x y : Bool) → rises_under E a b ≡ x → rises_under E b a ≡ y → (x ≡ true → y ≡ true → ⊥) → pos (cases x 2 (cases y 0 1)) ≡ adds e g +ℤ pos 1
    unfolding under
    weight x y p q n =
        number x y n ∙
        ap₂ (λ c d. (one c -ℤ one d) +ℤ pos 1) (sym p ∙ rises-is e g.from g.to) (sym q ∙ rises-is e g.to g.from)
      where
        number : (x y : Bool) → (x ≡ true → y ≡ true → ⊥) → pos (cases x 2 (cases y 0 1)) ≡ (one x -ℤ one y) +ℤ pos 1
        number true true n = absurd (n refl refl)
        number true false n = refl
        number false true n = refl
        number false false n = refl

    pub look_is : is_some (look (edge_by P e) (edge_by P g)) ≡ true → (meets P e g ≡ false) × (pos (counted (look (edge_by P e) (edge_by P g))) ≡ adds e g +ℤ pos 1)
    unfolding look edge_by
    look_is h = go (meet E (edge_by P g)) (rises_under E a b) (rises_under E b a) refl refl refl h
      where
        go : (m x y : Bool) → meet E (edge_by P g) ≡ m → rises_under E a b ≡ x → rises_under E b a ≡ y → is_some (cases {A = Option ℕ} m None (Some (cases x 2 (cases y 0 1)))) ≡ true →
            (meets P e g ≡ false) × (pos (counted (cases m None (Some (cases x 2 (cases y 0 1))))) ≡ adds e g +ℤ pos 1)
        go true x y p q r k = clash (sym k)
        go false x y p q r k = (sym (meet-is e g) ∙ p, weight x y q r (λ s t. not-both E a b (q ∙ s) (r ∙ t)))

  -- ---- all beside all

  module _ (s : List ℕ) (e : Arrow) where
    abbrev at : ℕ → Option ℕ
    at = look_at P s (edge_by P e)

    -- what is added up is how many are under the middle, and one more for each arrow
    summed : (b : ℕ) → ((j : ℕ) → j < b → is_met at j ≡ false) → pos (sum_to (count_at at) b) ≡ added (adds e) (items (arrow_in s) 0 b) +ℤ pos b
    unfolding edge_in look_at is_met count_at
    summed zero h = rw (sum-none (count_at at), items-none (arrow_in s) 0 0 (omega arith))
    summed (suc b) h =
        let n : suc b ≡ b + 1 = omega arith in
        let l = (look_is e (arrow_in s b) (not-false _ (h b (omega arith)))).1 in
        let r = added-append (adds e) (items (arrow_in s) 0 b) (arrow_in s b ∷ []) in
        rw (n, sum_more (count_at at) b, items-snoc (arrow_in s) 0 b (omega arith), r)
        (grow (sum_to (count_at at) b) (count_at at b) b (added (adds e) (items (arrow_in s) 0 b)) (adds e (arrow_in s b)) (summed b (λ j i. h j (omega arith))) l)
      where
        grow : (k a b : ℕ) (x y : ℤ) → pos k ≡ x +ℤ pos b → pos a ≡ y +ℤ pos 1 → pos (k + a) ≡ (x +ℤ (y +ℤ pos 0)) +ℤ pos (b + 1)
        grow k a b x y h i = omega (arith, onℤ, sumℤ x (pos b), sumℤ y (pos 1), sumℤ y (pos 0), sumℤ x (y +ℤ pos 0), sumℤ (x +ℤ (y +ℤ pos 0)) (pos (b + 1)))

    fine-free : (b : ℕ) → fine at b (falling (edge_by P e)) ≡ true → not (any (meets P e) (items (arrow_in s) 0 b)) && right_free P (items (arrow_in s) 0 b) e ≡ true
    unfolding fine edge_in falling edge_by under_middle look_at is_met count_at
    fine-free b h =
        let f = is_met at in
        let k = falling (edge_by P e) in
        let none = lowest-nothing f b in
        let n : lowest f 0 b ≡ _ = not_found (lowest f 0 b) (not-true _ (and_left (not (is_some (lowest f 0 b))) (eqb (sum_to (count_at at) b) (b + k)) h)) in
        let q = eqb-true (sum_to (count_at at) b) (b + k) (and_right (not (is_some (lowest f 0 b))) (eqb (sum_to (count_at at) b) (b + k)) h) in
        let z = any-no (meets P e) (arrow_in s) b (λ j i. (look_is e (arrow_in s j) (not-false _ (none j n i))).0) in
        let u : added (adds e) (items (arrow_in s) 0 b) ≡ pos k = left_over (sum_to (count_at at) b) b k _ (summed b (λ j i. none j n i)) q in
        and_both (ap not z) (eq-same_z _ _ (u ∙ fall (lt_z (key steep (P e.to)) (key steep (P e.from)))))
      where
        left_over : (m b k : ℕ) (x : ℤ) → pos m ≡ x +ℤ pos b → m ≡ b + k → x ≡ pos k
        left_over m b k x h i = omega (arith, onℤ, sumℤ x (pos b))

        fall : (t : Bool) → pos (cases t 1 0) ≡ one t
        fall true = refl
        fall false = refl

  -- ALL ARROWS ARE FREE: THE BORDER IS CLEAR
  pub free-clear : (s : List ℕ) (b : ℕ) → all_free P s b ≡ true → clear P (items (arrow_in s) 0 b) ≡ true
  unfolding all_free not_free clear edge_in
  free-clear s b h =
      let f = not_free P s b in
      let n = not_found (lowest f 0 b) (not-true (is_some (lowest f 0 b)) h) in
      yes-all (items-all (arrow_in s) b (λ i l. fine-free s (arrow_in s i) b (not-false _ (lowest-nothing f b i n l))))
