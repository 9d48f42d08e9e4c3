-- Beside a border arrow: what the other border arrows count is the same at all points of it that have no node's key. Assumes nothing.
use Rattle.std.specs.Prelude.{Bool, not, ◌&&◌, ◌≢◌, ◌≡◌, ℕ, ◌≤◌, ℤ, neg_ℤ, ◌+ℤ◌, ◌-ℤ◌, ◌*ℤ◌, ◌<ℤ◌}
use Rattle.std.proofs.Math.Bool.{true, false}
use mathlib.Core.List.{List, Memᴰ}
use Rattle.std.proofs.Math.Path.{refl, ap}
use Rattle.std.proofs.Common.{sym, ap₂, subst, ◌∙◌, arith}
use Rattle.std.proofs.Math.IntN.{pos}
use Rattle.std.specs.Int.Signed.{lt_z}
use Rattle.whole.specs.Diff.{onℤ, sumℤ, subℤ, negℤ-ud}
use Rattle.whole.specs.Tests.{lt_z-true, lt_z-false, lt-lt_z}
use Rattle.whole.specs.Order.{le_antisymm}
use Rattle.lists.specs.Lists.{any, only, count, All}
use Rattle.lists.specs.ListsLaw.{any_at, All-imp}
use Rattle.lists.specs.MembersLaw.{only-passes}
use Rattle.lists.specs.Tally.{only-le, count-tally, bit}
use Rattle.meaning.specs.declared.Place.{Place}
use Rattle.meaning.specs.declared.Tri.{Tri}
use Rattle.meaning.specs.Mesh.{Mesh, Arrow, same_arrow, holds_arrow, at}
use Rattle.meaning.specs.Proper.{Point}
use Rattle.laws.specs.Edges.{same_arrow-eq, eq-arrow}
use Rattle.border.specs.Signs.{zero-swapped, lt_not, below-zero, zero-of-equal, above-swapped, equal-of-zero}
use Rattle.border.specs.Sums.{when, one, added, added-eq, added-zero, added-sum, added-neg, added-only, added-any, added-parts}
use Rattle.border.specs.Under.{Form, key, key_at, under, ahead, under-swapped}
use Rattle.border.specs.Cancel.{Once, reverse, arrows_of, border, balance}
use Rattle.border.specs.Count.{under_arrow}
use Rattle.border.specs.Segment.{Strictly, Apart, rise}
use Rattle.border.specs.Alike.{under_alike}
use Rattle.border.specs.Along.{Earlier, behind, lower, between, moved}

-- C–D does not meet A–B strictly between A and B, and is not along the form's lines
pub record Clear (f : Form) (A B C D : Place) : Type 0 where
  pub slanted : rise f C D ≢ pos 0
  pub apart : Apart f A B C D
  pub apart-back : Apart f A B D C

pub clear-back : (f : Form) (A B C D : Place) → Clear f A B C D → Clear f A B D C
clear-back f A B C D h = record { slanted = λ e. h.slanted (zero-swapped (key f C) (key f D) e); apart = h.apart-back; apart-back = h.apart }

-- one of two ends is the lower
pub data Slant (f : Form) (C D : Place) : Type 0 where
  rising : pos 0 <ℤ rise f C D → Slant f C D
  falling : pos 0 <ℤ rise f D C → Slant f C D

slant : (f : Form) (C D : Place) → rise f C D ≢ pos 0 → Slant f C D
slant f C D n = go (lt_z (pos 0) (rise f C D)) refl
  where
    go : (b : Bool) → lt_z (pos 0) (rise f C D) ≡ b → Slant f C D
    go true e = rising (lt_z-true (pos 0) (rise f C D) e)
    go false e = falling (above-swapped (key f C) (key f D) (below-zero (rise f C D) n e))

module _ (f : Form) (A B : Place) (low-high : pos 0 <ℤ rise f A B) (s t : Point) (hs : Strictly f A B s) (ht : Strictly f A B t) (early : Earlier f s t) where
  -- an arrow that does not meet the segment
  moved-any : (C D : Place) → Clear f A B C D → ahead f C s ≢ pos 0 → ahead f D s ≢ pos 0 → ahead f C t ≢ pos 0 → ahead f D t ≢ pos 0 →
      under f C D t -ℤ under f C D s ≡ between f A B s t C -ℤ between f A B s t D
  moved-any C D h cs ds ct dt = go (slant f C D h.slanted)
    where
      turned : (a b c d : ℤ) → a -ℤ b ≡ c -ℤ d → neg_ℤ a -ℤ neg_ℤ b ≡ d -ℤ c
      turned a b c d e = omega (arith, onℤ, subℤ a b, subℤ c d, subℤ d c, subℤ (neg_ℤ a) (neg_ℤ b), negℤ-ud a, negℤ-ud b)

      go : Slant f C D → under f C D t -ℤ under f C D s ≡ between f A B s t C -ℤ between f A B s t D
      go (rising r) = moved f A B low-high s t hs ht C D r h.apart early ds dt
      go (falling r) =
          ap₂ ◌-ℤ◌ (under-swapped f D C t) (under-swapped f D C s) ∙
          turned (under f D C t) (under f D C s) (between f A B s t D) (between f A B s t C) (moved f A B low-high s t hs ht D C r h.apart-back early cs ct)

-- ---- the border

-- the other arrows
abbrev pub others : Arrow → List Arrow → List Arrow
others e es = only (λ d. not (same_arrow e d)) es

-- an arrow of the border is there once
module _ (ts : List Tri) (no-twice : Once (arrows_of ts)) (e : Arrow) (here : Memᴰ e (border ts)) (φ : Arrow → ℤ) where
  own-sum : added φ (only (same_arrow e) (border ts)) ≡ φ e
  own-sum =
      added-only φ (same_arrow e) (border ts) ∙ (λ i. added (λ d. same d i) (border ts)) ∙
      added-any (same_arrow e) (φ e) (border ts) once-there ∙ ap (λ b. when b (φ e)) (any_at (same_arrow e) (eq-arrow e e.from e.to refl refl) here)
    where
      same : (d : Arrow) → when (same_arrow e d) (φ d) ≡ when (same_arrow e d) (φ e)
      same d = go (same_arrow e d) refl
        where
          go : (b : Bool) → same_arrow e d ≡ b → when b (φ d) ≡ when b (φ e)
          go true h = sym (ap φ (same_arrow-eq e d h))
          go false h = refl

      once-there : count (same_arrow e) (border ts) ≤ 1
      once-there =
          omega (arith, only-le (λ d. bit (same_arrow e d)) (λ d. not (any (holds_arrow (reverse d)) ts)) (arrows_of ts), count-tally (same_arrow e) (arrows_of ts), count-tally (same_arrow e) (border ts), no-twice e)

  -- it and the others
  pub border-split : added φ (border ts) ≡ φ e +ℤ added φ (others e (border ts))
  border-split = added-parts φ (same_arrow e) (border ts) ∙ ap (λ k. k +ℤ added φ (others e (border ts))) own-sum

-- neither end of d has the key of s
pub record Free (f : Form) (m : Mesh) (s : Point) (d : Arrow) : Type 0 where
  pub from-free : ahead f (at m d.from) s ≢ pos 0
  pub to_free : ahead f (at m d.to) s ≢ pos 0

abbrev pub ClearArrow : Form → Mesh → Place → Place → Arrow → Type 0
ClearArrow f m A B d = Clear f A B (at m d.from) (at m d.to)

-- A and B are the places of e's ends
pub data Ends (m : Mesh) (e : Arrow) (A B : Place) : Type 0 where
  forth : at m e.from ≡ A → at m e.to ≡ B → Ends m e A B
  back : at m e.from ≡ B → at m e.to ≡ A → Ends m e A B

module _ (f : Form) (m : Mesh) (ts : List Tri) (no-twice : Once (arrows_of ts)) (A B : Place) (low-high : pos 0 <ℤ rise f A B) (e : Arrow) where
  -- all that is lost along the others comes to 0, if nothing is lost along e
  others-balance : (g : ℕ → ℤ) → g e.from ≡ g e.to → added (λ d. g d.from -ℤ g d.to) (others e (border ts)) ≡ pos 0
  others-balance g same =
      left_over _ _ (sym (added-parts (λ d. g d.from -ℤ g d.to) (same_arrow e) (border ts)) ∙ balance g ts no-twice)
      (added-zero (λ d. g d.from -ℤ g d.to) (All-imp own (only-passes (same_arrow e) (border ts))))
    where
      left_over : (a b : ℤ) → a +ℤ b ≡ pos 0 → a ≡ pos 0 → b ≡ pos 0
      left_over a b h i = omega (arith, onℤ, sumℤ a b)

      own : (d : Arrow) → same_arrow e d ≡ true → g d.from -ℤ g d.to ≡ pos 0
      own d h = subst (λ (x : Arrow). g x.from -ℤ g x.to ≡ pos 0) (same_arrow-eq e d h) (zero-of-equal (g e.from) (g e.to) same)

  module _ (ends : Ends m e A B) (s t : Point) (hs : Strictly f A B s) (ht : Strictly f A B t) where
    -- the ends' keys are not between those of s and t
    low-out : between f A B s t A ≡ pos 0
    unfolding between
    low-out = ap (λ b. one (not b && (behind f A t && lower A B A))) (lt-lt_z (pos 0) (ahead f A s) hs.past-low)

    high-out : between f A B s t B ≡ pos 0
    unfolding between
    high-out = ap (λ b. one (not (behind f B s) && (b && lower A B B))) (lt_not ht.before-high) ∙ go (behind f B s)
      where
        go : (b : Bool) → one (not b && false) ≡ pos 0
        go true = refl
        go false = refl

    ends-out : between f A B s t (at m e.from) ≡ between f A B s t (at m e.to)
    ends-out = go ends
      where
        go : Ends m e A B → between f A B s t (at m e.from) ≡ between f A B s t (at m e.to)
        go (forth p q) = ap (between f A B s t) p ∙ low-out ∙ sym (ap (between f A B s t) q ∙ high-out)
        go (back p q) = ap (between f A B s t) p ∙ high-out ∙ sym (ap (between f A B s t) q ∙ low-out)

    -- from one point of e to a later one
    beside-later : Earlier f s t → All (λ d. ClearArrow f m A B d × Free f m s d × Free f m t d) (others e (border ts)) →
        added (under_arrow f m t) (others e (border ts)) ≡ added (under_arrow f m s) (others e (border ts))
    beside-later early h =
        equal-of-zero _ _ (sym (ap (λ k. added (under_arrow f m t) (others e (border ts)) +ℤ k) (added-neg (under_arrow f m s) (others e (border ts)))) ∙
        sym (added-sum (under_arrow f m t) (λ d. neg_ℤ (under_arrow f m s d)) (others e (border ts))) ∙
        added-eq (λ d. under_arrow f m t d -ℤ under_arrow f m s d) (λ d. between f A B s t (at m d.from) -ℤ between f A B s t (at m d.to))
        (All-imp (λ d (c, p, q). moved-any f A B low-high s t hs ht early (at m d.from) (at m d.to) c p.from-free p.to_free q.from-free q.to_free) h) ∙
        others-balance (λ k. between f A B s t (at m k)) ends-out)

  -- at any two points of e
  pub beside : Ends m e A B → (s t : Point) → Strictly f A B s → Strictly f A B t → All (λ d. ClearArrow f m A B d × Free f m s d × Free f m t d) (others e (border ts)) →
      added (under_arrow f m t) (others e (border ts)) ≡ added (under_arrow f m s) (others e (border ts))
  beside ends s t hs ht h = go (lt_z (key_at f s *ℤ t.W) (key_at f t *ℤ s.W)) (lt_z (key_at f t *ℤ s.W) (key_at f s *ℤ t.W)) refl refl
    where
      go : (a b : Bool) → lt_z (key_at f s *ℤ t.W) (key_at f t *ℤ s.W) ≡ a → lt_z (key_at f t *ℤ s.W) (key_at f s *ℤ t.W) ≡ b →
          added (under_arrow f m t) (others e (border ts)) ≡ added (under_arrow f m s) (others e (border ts))
      go true b x y = beside-later ends s t hs ht (lt_z-true (key_at f s *ℤ t.W) (key_at f t *ℤ s.W) x) h
      go false true x y = sym (beside-later ends t s ht hs (lt_z-true (key_at f t *ℤ s.W) (key_at f s *ℤ t.W) y) (All-imp (λ d (c, p, q). (c, q, p)) h))
      go false false x y =
          let k = le_antisymm (lt_z-false (key_at f t *ℤ s.W) (key_at f s *ℤ t.W) y) (lt_z-false (key_at f s *ℤ t.W) (key_at f t *ℤ s.W) x) in
          sym (λ i. added (λ d. under_alike f A B low-high s t hs ht k (at m d.from) (at m d.to) i) (others e (border ts)))
