-- Just right and just left of a border arrow: how many rows are there, by the other border arrows at a point of it. Assumes nothing.
use Rattle.std.specs.Prelude.{Bool, true, false, not, ◌&&◌, ◌≢◌, ◌≡◌, refl, ℕ, ℤ, pos, neg_ℤ, ◌+ℤ◌, ◌<ℤ◌}
use mathlib.Core.List.{List, Memᴰ}
use Rattle.std.proofs.Common.{sym, ap, ap₂, subst, ◌∙◌, arith}
use Rattle.std.specs.Int.Signed.{lt_z}
use Rattle.whole.specs.Ring.{K, ◌:+◌, ◌:-◌, ◌:*◌, neg, ring3, ring6}
use Rattle.whole.specs.Tests.{lt_z-true, lt_z-false, lt-lt_z}
use Rattle.lists.specs.Lists.{any, cases, All, nil, cons}
use Rattle.lists.specs.ListsLaw.{All-imp, All-both, All-at, All-joined}
use Rattle.lists.specs.MembersLaw.{only_keeps, only_out}
use Rattle.meaning.specs.declared.Place.{Place}
use Rattle.meaning.specs.declared.Tri.{Tri}
use Rattle.meaning.specs.Mesh.{Mesh, Arrow, arrows, same_arrow, holds_arrow, at}
use Rattle.meaning.specs.Proper.{Point, area, shape, left}
use Rattle.border.specs.Signs.{minus-above, lt_not, below-zero, below-not, above-not, below-of-minus, lt-le, minus-below}
use Rattle.border.specs.Sums.{one, added, added-eq}
use Rattle.border.specs.Under.{Form, ahead}
use Rattle.border.specs.Cancel.{Once, reverse, arrows_of, border}
use Rattle.border.specs.Count.{under_arrow, depth, OffRows, depth-border}
use Rattle.border.specs.Segment.{Strictly, Within, above}
use Rattle.border.specs.Along.{behind}
use Rattle.border.specs.Beside.{others, Free, border-split}
use Rattle.border.specs.Nearest.{upward, low_end, high_end, signed, beneath, Slanted, middle_of, middle-on, Lone, others_at, clear-ends, free-ends, under-beneath}
use Rattle.border.specs.Near.{tilt-back, Eventually, both-from, imply-from, all_from, line, line-above, line-not, near, tilt, growth, left_near, ahead-near, weight-stays, Direction, direction-back, directions, point-near, line-minus}

-- ---- signs that stay

sign-stays : (c d : ℤ) → c ≢ pos 0 → Eventually (λ n. lt_z (pos 0) (line c d n) ≡ lt_z (pos 0) c)
sign-stays c d n = go (lt_z (pos 0) c) refl
  where
    go : (b : Bool) → lt_z (pos 0) c ≡ b → Eventually (λ n. lt_z (pos 0) (line c d n) ≡ b)
    go true e = imply-from (λ n l. lt-lt_z (pos 0) (line c d n) l) (line-above c d (lt_z-true (pos 0) c e))
    go false e =
        imply-from (λ n l. lt_not (below-of-minus (line c d n) (subst (λ k. pos 0 <ℤ k) (line-minus n c d) l))) (line-above (neg_ℤ c) (neg_ℤ d) (minus-above c (below-zero c n e)))

module _ (f : Form) (s : Point) (u v : ℤ) where
  behind-stays : (A : Place) → ahead f A s ≢ pos 0 → Eventually (λ n. behind f A (near s u v n) ≡ behind f A s)
  behind-stays A h = imply-from (λ n l. ap (lt_z (pos 0)) (ahead-near f A s u v n) ∙ l) (sign-stays (ahead f A s) (growth f u v) h)

  above-stays : (C D : Place) → left C D s ≢ pos 0 → Eventually (λ n. above C D (near s u v n) ≡ above C D s)
  above-stays C D h = imply-from (λ n l. ap (lt_z (pos 0)) (left_near C D s u v n) ∙ l) (sign-stays (left C D s) (tilt C D u v) h)

  between_stays : (C D : Place) → ahead f C s ≢ pos 0 → ahead f D s ≢ pos 0 → (Within f C D s → left C D s ≢ pos 0) →
      Eventually (λ n. behind f C (near s u v n) && (not (behind f D (near s u v n)) && above C D (near s u v n)) ≡ behind f C s && (not (behind f D s) && above C D s))
  between_stays C D nc nd off = go (behind f C s) (behind f D s) refl refl
    where
      shut : (a c : Bool) {b : Bool} → b ≡ true → a && (not b && c) ≡ false
      shut true c h = ap (λ b. not b && c) h
      shut false c h = refl

      go : (x y : Bool) → behind f C s ≡ x → behind f D s ≡ y →
          Eventually (λ n. behind f C (near s u v n) && (not (behind f D (near s u v n)) && above C D (near s u v n)) ≡ behind f C s && (not (behind f D s) && above C D s))
      go true true e g =
          imply-from (λ n l. shut (behind f C (near s u v n)) (above C D (near s u v n)) (l ∙ g) ∙ sym (shut (behind f C s) (above C D s) g)) (behind-stays D nd)
      go true false e g =
          imply-from (λ n (a, (b, c)). λ i. a i && (not (b i) && c i))
          (both-from (behind-stays C nc) (both-from (behind-stays D nd)
          (above-stays C D (off (record { from_low = lt-le (lt_z-true (pos 0) (ahead f C s) e); to_high = lt_z-false (pos 0) (ahead f D s) g })))))
      go false y e g =
          imply-from (λ n l. ap (λ b. b && (not (behind f D (near s u v n)) && above C D (near s u v n))) (l ∙ e) ∙ sym (ap (λ b. b && (not (behind f D s) && above C D s)) e)) (behind-stays C nc)

  ahead-keeps : (A : Place) → ahead f A s ≢ pos 0 → Eventually (λ n. ahead f A (near s u v n) ≢ pos 0)
  ahead-keeps A h = imply-from (λ n l e. l (sym (ahead-near f A s u v n) ∙ e)) (line-not (ahead f A s) (growth f u v) (λ e. absurd (h e)))

  -- what an arrow counts stays, if it does not pass through the point
  module _ (m : Mesh) (w : pos 0 <ℤ s.W) (d : Arrow) (slanted : Slanted f m d) (free : Free f m s d) where
    pub free-near : Eventually (λ n. Free f m (near s u v n) d)
    free-near = imply-from (λ n (a, b). record { from-free = a; to_free = b }) (both-from (ahead-keeps (at m d.from) free.from-free) (ahead-keeps (at m d.to) free.to_free))

    beneath-stays : (Within f (low_end f m d) (high_end f m d) s → left (low_end f m d) (high_end f m d) s ≢ pos 0) → Eventually (λ n. beneath f m (near s u v n) d ≡ beneath f m s d)
    beneath-stays off = between_stays (low_end f m d) (high_end f m d) (free-ends f m d s free).0 (free-ends f m d s free).1 off

    pub under_stays : (Within f (low_end f m d) (high_end f m d) s → left (low_end f m d) (high_end f m d) s ≢ pos 0) → Eventually (λ n. under_arrow f m (near s u v n) d ≡ under_arrow f m s d)
    under_stays off =
        imply-from (λ n (a, (b, c)). under-beneath f m d (near s u v n) slanted b c ∙ ap (λ x. signed (upward f m d) (one x)) a ∙ sym (under-beneath f m d s slanted w free))
        (both-from (beneath-stays off) (both-from (weight-stays s u v w) free-near))

-- ---- on either side of a border arrow

module _ (f : Form) (m : Mesh) (ts : List Tri) (slanted : All (Slanted f m) (border ts)) (e : Arrow) (lone : Lone f m ts e) (u v : ℤ) where
  on : Strictly f (low_end f m e) (high_end f m e) (middle_of m e)
  on = middle-on f m e lone.slanted

  -- the others count as at e's middle
  others-near : Eventually (λ n. added (under_arrow f m (near (middle_of m e) u v n)) (others e (border ts)) ≡ others_at f m ts e)
  others-near =
      imply-from (λ n h. added-eq (under_arrow f m (near (middle_of m e) u v n)) (under_arrow f m (middle_of m e)) h)
      (all_from (All-imp (λ d (k, (g, c)). under_stays f (middle_of m e) u v m on.weight d k g
      ((clear-ends f m d (low_end f m e) (high_end f m e) c).apart (middle_of m e) on))
      (All-both (only_keeps (λ d. not (same_arrow e d)) slanted) (All-both lone.middle-free lone.clear))))

  ends-free : Free f m (middle_of m e) e
  ends-free = go (upward f m e) on.past-low on.before-high
    where
      go : (b : Bool) → pos 0 <ℤ ahead f (cases b (at m e.from) (at m e.to)) (middle_of m e) → ahead f (cases b (at m e.to) (at m e.from)) (middle_of m e) <ℤ pos 0 → Free f m (middle_of m e) e
      go true h i = record { from-free = above-not h; to_free = below-not i }
      go false h i = record { from-free = below-not i; to_free = above-not h }

  -- e itself counts as the direction turns
  own-near : Eventually (λ n. under_arrow f m (near (middle_of m e) u v n) e ≡ signed (upward f m e) (one (lt_z (pos 0) (tilt (low_end f m e) (high_end f m e) u v))))
  own-near =
      imply-from (λ n (w, (g, (a, b))). under-beneath f m e (near (middle_of m e) u v n) lone.slanted w g ∙
      ap (signed (upward f m e)) (λ i. one (low-past n a i && (not (high-not n b i) && side n i))))
      (both-from (weight-stays (middle_of m e) u v on.weight) (both-from (free-near f (middle_of m e) u v m on.weight e lone.slanted ends-free)
      (both-from (behind-stays f (middle_of m e) u v (low_end f m e) (free-ends f m e (middle_of m e) ends-free).0)
      (behind-stays f (middle_of m e) u v (high_end f m e) (free-ends f m e (middle_of m e) ends-free).1))))
    where
      low-past : (n : ℕ) → behind f (low_end f m e) (near (middle_of m e) u v n) ≡ behind f (low_end f m e) (middle_of m e) → behind f (low_end f m e) (near (middle_of m e) u v n) ≡ true
      low-past n h = h ∙ lt-lt_z (pos 0) (ahead f (low_end f m e) (middle_of m e)) on.past-low

      high-not : (n : ℕ) → behind f (high_end f m e) (near (middle_of m e) u v n) ≡ behind f (high_end f m e) (middle_of m e) → behind f (high_end f m e) (near (middle_of m e) u v n) ≡ false
      high-not n h = h ∙ lt_not on.before-high

      side : (n : ℕ) → above (low_end f m e) (high_end f m e) (near (middle_of m e) u v n) ≡ lt_z (pos 0) (tilt (low_end f m e) (high_end f m e) u v)
      side n =
          ap (lt_z (pos 0)) (left_near (low_end f m e) (high_end f m e) (middle_of m e) u v n ∙ ap (λ k. line k (tilt (low_end f m e) (high_end f m e) u v) n) on.on_line ∙
          ring3 (λ n t z. (n :* K (pos 0) :+ t, t)) (pos n) (tilt (low_end f m e) (high_end f m e) u v) (pos 0) tt)

-- the direction turns left or right of every arrow
tilt-arrows : (f : Form) (m : Mesh) (u v : ℤ) → Direction f m u v → All (λ e. tilt (at m e.from) (at m e.to) u v ≢ pos 0) (arrows_of m.tris)
tilt-arrows f m u v d = All-joined arrows (All-imp (λ t h. cons h.tilt-pq (cons h.tilt-qr (cons h.tilt-rp nil))) d.tilted)

tilt-swapped : (A B : Place) (u v : ℤ) → tilt B A u v ≡ neg_ℤ (tilt A B u v)
tilt-swapped A B u v = ring6 (λ a b c d u v. ((a :- c) :* v :- u :* (b :- d), neg ((c :- a) :* v :- u :* (d :- b)))) A.x A.y B.x B.y u v tt

-- a direction to the left of e, and one to the right
module _ (f : Form) (across : f.across ≢ pos 0) (m : Mesh) (positive : All (λ t. pos 0 <ℤ area (shape m t)) m.tris) (e : Arrow) (here : Memᴰ e (arrows_of m.tris)) where
  pub record Toward (P : ℤ → Type 0) : Type 0 where
    pub u : ℤ
    pub v : ℤ
    pub direction : Direction f m u v
    pub turns : P (tilt (at m e.from) (at m e.to) u v)

  abbrev chosen : ℕ
  chosen = (directions f across m positive).start

  some : Direction f m (pos 1) (pos (directions f across m positive).start)
  some = (directions f across m positive).holds (directions f across m positive).start (omega arith)

  to-left : Toward (λ z. pos 0 <ℤ z)
  to-left = go (lt_z (pos 0) (tilt (at m e.from) (at m e.to) (pos 1) (pos chosen))) refl
    where
      go : (b : Bool) → lt_z (pos 0) (tilt (at m e.from) (at m e.to) (pos 1) (pos chosen)) ≡ b → Toward (λ z. pos 0 <ℤ z)
      go true h = record { u = pos 1; v = pos chosen; direction = some; turns = lt_z-true (pos 0) (tilt (at m e.from) (at m e.to) (pos 1) (pos chosen)) h }
      go false h = record {
        u = neg_ℤ (pos 1);
        v = neg_ℤ (pos chosen);
        direction = direction-back f m (pos 1) (pos chosen) some;
        turns = subst (λ k. pos 0 <ℤ k) (sym (tilt-back (at m e.from) (at m e.to) (pos 1) (pos chosen)))
            (minus-above _ (below-zero (tilt (at m e.from) (at m e.to) (pos 1) (pos chosen)) (All-at (tilt-arrows f m (pos 1) (pos chosen) some) here) h));
      }

  to-right : Toward (λ z. z <ℤ pos 0)
  to-right =
      let l = to-left in
      record {
        u = neg_ℤ l.u;
        v = neg_ℤ l.v;
        direction = direction-back f m l.u l.v l.direction;
        turns = subst (λ k. k <ℤ pos 0) (sym (tilt-back (at m e.from) (at m e.to) l.u l.v)) (minus-below (tilt (at m e.from) (at m e.to) l.u l.v) l.turns);
      }

module _ (f : Form) (m : Mesh) (e : Arrow) (u v : ℤ) where
  -- right of it an arrow that falls takes one away; left of it one that rises adds one
  own-right : tilt (at m e.from) (at m e.to) u v <ℤ pos 0 → signed (upward f m e) (one (lt_z (pos 0) (tilt (low_end f m e) (high_end f m e) u v))) ≡ neg_ℤ (one (not (upward f m e)))
  own-right h = go (upward f m e)
    where
      go : (b : Bool) → signed b (one (lt_z (pos 0) (tilt (cases b (at m e.from) (at m e.to)) (cases b (at m e.to) (at m e.from)) u v))) ≡ neg_ℤ (one (not b))
      go true = ap one (lt_not h)
      go false = ap (λ b. neg_ℤ (one b)) (ap (lt_z (pos 0)) (tilt-swapped (at m e.from) (at m e.to) u v) ∙ lt-lt_z (pos 0) (neg_ℤ (tilt (at m e.from) (at m e.to) u v)) (minus-above (tilt (at m e.from) (at m e.to) u v) h))

  own-left : pos 0 <ℤ tilt (at m e.from) (at m e.to) u v → signed (upward f m e) (one (lt_z (pos 0) (tilt (low_end f m e) (high_end f m e) u v))) ≡ one (upward f m e)
  own-left h = go (upward f m e)
    where
      go : (b : Bool) → signed b (one (lt_z (pos 0) (tilt (cases b (at m e.from) (at m e.to)) (cases b (at m e.to) (at m e.from)) u v))) ≡ one b
      go true = ap one (lt-lt_z (pos 0) (tilt (at m e.from) (at m e.to) u v) h)
      go false = ap (λ b. neg_ℤ (one b)) (ap (lt_z (pos 0)) (tilt-swapped (at m e.from) (at m e.to) u v) ∙ lt_not (minus-below (tilt (at m e.from) (at m e.to) u v) h))

-- a point off the rows, and how many rows it is inside
pub record Depth (f : Form) (m : Mesh) (k : ℤ) : Type 0 where
  pub point : Point
  pub weight : pos 0 <ℤ point.W
  pub off : OffRows f m point
  pub is : pos (depth m point) ≡ k

module _ (f : Form) (across : f.across ≢ pos 0) (m : Mesh) (positive : All (λ t. pos 0 <ℤ area (shape m t)) m.tris) (no-twice : Once (arrows_of m.tris))
    (slanted : All (Slanted f m) (border m.tris)) (e : Arrow) (here : Memᴰ e (border m.tris)) (lone : Lone f m m.tris e) where
  depth-toward : (k u v : ℤ) → Direction f m u v → signed (upward f m e) (one (lt_z (pos 0) (tilt (low_end f m e) (high_end f m e) u v))) ≡ k → Depth f m (k +ℤ others_at f m m.tris e)
  depth-toward k u v d own =
      let (p, w, off, (a, b)) = point-near f m (middle_of m e) u v (middle-on f m e lone.slanted).weight d
      (λ p. (under_arrow f m p e ≡ signed (upward f m e) (one (lt_z (pos 0) (tilt (low_end f m e) (high_end f m e) u v)))) × (added (under_arrow f m p) (others e (border m.tris)) ≡ others_at f m m.tris e))
      (both-from (own-near f m m.tris slanted e lone u v) (others-near f m m.tris slanted e lone u v)) in
      record { point = p; weight = w; off = off; is = depth-border f m p positive no-twice off ∙ border-split m.tris no-twice e here (under_arrow f m p) ∙ ap₂ ◌+ℤ◌ (a ∙ own) b }

  in-arrows : Memᴰ e (arrows_of m.tris)
  in-arrows = only_out (λ d. not (any (holds_arrow (reverse d)) m.tris)) (arrows_of m.tris) here

  -- just right of e
  pub right-depth : Depth f m (neg_ℤ (one (not (upward f m e))) +ℤ others_at f m m.tris e)
  right-depth =
      let r = to-right f across m positive e in-arrows in
      depth-toward (neg_ℤ (one (not (upward f m e)))) r.u r.v r.direction (own-right f m e r.u r.v r.turns)

  -- just left of e
  pub left-depth : Depth f m (one (upward f m e) +ℤ others_at f m m.tris e)
  left-depth =
      let r = to-left f across m positive e in-arrows in
      depth-toward (one (upward f m e)) r.u r.v r.direction (own-left f m e r.u r.v r.turns)
