-- Below a point: the nearest border arrow says how many rows the point is inside, and they are at most one. Assumes nothing.
use Rattle.std.specs.Prelude.{Bool, true, false, not, ◌&&◌, ◌≢◌, ◌≡◌, refl, ◌≤◌, ℤ, pos, neg_ℤ, ◌+ℤ◌, ◌-ℤ◌, ◌*ℤ◌, ◌≤ℤ◌, ◌<ℤ◌}
use mathlib.Core.List.{List, Memᴰ}
use Rattle.std.proofs.Common.{sym, ap, ap₂, subst, ◌∙◌, arith}
use Rattle.std.proofs.Math.IntN.{+ℤ_comm}
use Rattle.std.specs.Int.Signed.{lt_z}
use Rattle.std.proofs.lemmas.Bool.{not-true}
use Rattle.whole.specs.Diff.{onℤ, subℤ}
use Rattle.whole.specs.Ring.{K, ◌:+◌, ◌:-◌, ◌:*◌, neg, ring2, ring4, ring6}
use Rattle.whole.specs.Tests.{lt_z-true, lt_z-false, lt-lt_z, le-lt_z}
use Rattle.whole.specs.Order.{le_antisymm, positive-times, nonpos-times}
use Rattle.lists.specs.Lists.{cases, All, nil, cons}
use Rattle.lists.specs.ListsLaw.{both_ways, and_both, and_left, and_right, All-imp, All-both, All-at, All-joined}
use Rattle.lists.specs.MembersLaw.{only_keeps}
use Rattle.meaning.specs.declared.Place.{Place}
use Rattle.meaning.specs.declared.Tri.{Tri}
use Rattle.meaning.specs.Mesh.{Mesh, Arrow, arrows, same_arrow, at}
use Rattle.meaning.specs.Proper.{Point, area, shape, left}
use Rattle.border.specs.Signs.{unscale-above, below-zero, above-not, below-of-minus, above-swapped, sign-product, lt-le}
use Rattle.border.specs.Sums.{one, added, added-eq, added-zero}
use Rattle.border.specs.Under.{left_expr, Form, Off, key, under, ahead, under-swapped, ahead-not}
use Rattle.border.specs.Cancel.{Once, arrows_of, border}
use Rattle.border.specs.Count.{under_arrow, depth, OffRows, depth-border}
use Rattle.border.specs.Segment.{ahead_expr, Strictly, Within, Spans, Apart, rise, spot, above, left-spot, spot-ahead, spot-strictly, spot-within}
use Rattle.border.specs.Along.{behind, under-rising}
use Rattle.border.specs.Beside.{Clear, clear-back, others, Free, ClearArrow, Ends, forth, back, border-split, beside}
use Rattle.border.specs.Clear.{middle}
use Rattle.border.specs.Least.{Least, none_passes, least, find-least}

-- ---- an arrow by its lower and its higher end

module _ (f : Form) (m : Mesh) (e : Arrow) where
  -- its key rises from start to end
  abbrev pub upward : Bool
  upward = lt_z (pos 0) (rise f (at m e.from) (at m e.to))

  abbrev pub low_end : Place
  low_end = cases upward (at m e.from) (at m e.to)

  abbrev pub high_end : Place
  high_end = cases upward (at m e.to) (at m e.from)

-- the number, or for an arrow that falls its negative
abbrev pub signed : Bool → ℤ → ℤ
signed true k = k
signed false k = neg_ℤ k

-- the arrow is under the point, whichever way it runs
abbrev pub beneath : Form → Mesh → Point → Arrow → Bool
beneath f m s e = behind f (low_end f m e) s && (not (behind f (high_end f m e) s) && above (low_end f m e) (high_end f m e) s)

-- no arrow is along the form's lines
abbrev pub Slanted : Form → Mesh → Arrow → Type 0
Slanted f m e = rise f (at m e.from) (at m e.to) ≢ pos 0

module _ (f : Form) (m : Mesh) (e : Arrow) where
  pub low-high : Slanted f m e → pos 0 <ℤ rise f (low_end f m e) (high_end f m e)
  low-high n = go (upward f m e) refl
    where
      go : (b : Bool) → upward f m e ≡ b → pos 0 <ℤ rise f (cases b (at m e.from) (at m e.to)) (cases b (at m e.to) (at m e.from))
      go true h = lt_z-true (pos 0) (rise f (at m e.from) (at m e.to)) h
      go false h = above-swapped (key f (at m e.from)) (key f (at m e.to)) (below-zero (rise f (at m e.from) (at m e.to)) n h)

  arrow-ends : Ends m e (low_end f m e) (high_end f m e)
  arrow-ends = go (upward f m e)
    where
      go : (b : Bool) → Ends m e (cases b (at m e.from) (at m e.to)) (cases b (at m e.to) (at m e.from))
      go true = forth refl refl
      go false = back refl refl

  pub clear-ends : (A B : Place) → ClearArrow f m A B e → Clear f A B (low_end f m e) (high_end f m e)
  clear-ends A B h = go (upward f m e)
    where
      go : (b : Bool) → Clear f A B (cases b (at m e.from) (at m e.to)) (cases b (at m e.to) (at m e.from))
      go true = h
      go false = clear-back f A B (at m e.from) (at m e.to) h

  pub free-ends : (s : Point) → Free f m s e → (ahead f (low_end f m e) s ≢ pos 0) × (ahead f (high_end f m e) s ≢ pos 0)
  free-ends s h = go (upward f m e)
    where
      go : (b : Bool) → (ahead f (cases b (at m e.from) (at m e.to)) s ≢ pos 0) × (ahead f (cases b (at m e.to) (at m e.from)) s ≢ pos 0)
      go true = (h.from-free, h.to_free)
      go false = (h.to_free, h.from-free)

  -- 1 or −1 where it is beneath, as it rises or falls
  pub under-beneath : (s : Point) → Slanted f m e → pos 0 <ℤ s.W → Free f m s e → under_arrow f m s e ≡ signed (upward f m e) (one (beneath f m s e))
  under-beneath s n w h =
      turned (upward f m e) ∙
      ap (signed (upward f m e)) (under-rising f (low_end f m e) (high_end f m e) s (low-high n) w (free-ends s h).1)
    where
      turned : (b : Bool) → under f (at m e.from) (at m e.to) s ≡ signed b (under f (cases b (at m e.from) (at m e.to)) (cases b (at m e.to) (at m e.from)) s)
      turned true = refl
      turned false = under-swapped f (at m e.to) (at m e.from) s

-- ---- what is beneath a point, and what is beneath the nearest segment below it

sign-times : (r x : ℤ) → pos 0 <ℤ r → lt_z (pos 0) (r *ℤ x) ≡ lt_z (pos 0) x
sign-times r x h =
    both_ways _ _ (λ e. lt-lt_z (pos 0) x (unscale-above x r h (subst (λ k. pos 0 <ℤ k) (ring2 (λ r x. (r :* x, x :* r)) r x tt) (lt_z-true (pos 0) (r *ℤ x) e))))
    (λ e. lt-lt_z (pos 0) (r *ℤ x) (positive-times r x h (lt_z-true (pos 0) x e)))

module _ (f : Form) (A B : Place) (up : pos 0 <ℤ rise f A B) (s : Point) (spans : Spans f A B s) (over : pos 0 <ℤ left A B s) where
  behind-spot : (v : Place) → behind f v (spot f A B s) ≡ behind f v s
  behind-spot v = ap (lt_z (pos 0)) (spot-ahead f A B s v) ∙ sign-times (rise f A B) (ahead f v s) up

  module _ (C D : Place) (up' : pos 0 <ℤ rise f C D) (apart : Apart f A B C D)
      (nearer : behind f C s && (not (behind f D s) && above C D s) ≡ true → (left A B s *ℤ rise f C D) ≤ℤ (left C D s *ℤ rise f A B)) where
    above-spot : Within f C D s → behind f C s ≡ true → behind f D s ≡ false → above C D s ≡ above C D (spot f A B s)
    above-spot w past-c before-d = go (above C D s) refl
      where
        from : (a b x y : ℤ) → (y *ℤ b) ≤ℤ (x *ℤ a) → pos 0 ≤ℤ (a *ℤ x -ℤ b *ℤ y)
        from a b x y h =
            let p : y *ℤ b ≡ b *ℤ y = ring2 (λ y b. (y :* b, b :* y)) y b tt in
            let q : x *ℤ a ≡ a *ℤ x = ring2 (λ x a. (x :* a, a :* x)) x a tt in
            omega (arith, onℤ, subℤ (a *ℤ x) (b *ℤ y))

        less : (u v : ℤ) → u ≤ℤ pos 0 → pos 0 <ℤ v → (u -ℤ v) ≤ℤ pos 0
        less u v h i = omega (arith, onℤ, subℤ u v)

        go : (b : Bool) → above C D s ≡ b → b ≡ above C D (spot f A B s)
        go true e = sym (not-zero (left C D (spot f A B s)) (apart (spot f A B s) (spot-strictly f A B s up spans) (spot-within f A B s up C D w))
            (subst (λ k. pos 0 ≤ℤ k) (sym (left-spot f A B s C D)) (from (rise f A B) (rise f C D) (left C D s) (left A B s) (nearer (and_both past-c (and_both (ap not before-d) e))))))
          where
            not-zero : (z : ℤ) → z ≢ pos 0 → pos 0 ≤ℤ z → lt_z (pos 0) z ≡ true
            not-zero z n h = step (lt_z (pos 0) z) refl
              where
                step : (b : Bool) → lt_z (pos 0) z ≡ b → b ≡ true
                step true e = refl
                step false e = absurd (n (le_antisymm (lt_z-false (pos 0) z e) h))
        go false e = sym (le-lt_z (pos 0) (left C D (spot f A B s)) (subst (λ k. k ≤ℤ pos 0) (sym (left-spot f A B s C D))
            (less (rise f A B *ℤ left C D s) (rise f C D *ℤ left A B s) (nonpos-times (rise f A B) (left C D s) (lt-le up) (lt_z-false (pos 0) (left C D s) e)) (positive-times (rise f C D) (left A B s) up' over))))

    beneath-spot : behind f C s && (not (behind f D s) && above C D s) ≡ behind f C (spot f A B s) && (not (behind f D (spot f A B s)) && above C D (spot f A B s))
    beneath-spot =
        go (behind f C s) (behind f D s) refl refl ∙
        sym (ap₂ (λ x y. x && (not y && above C D (spot f A B s))) (behind-spot C) (behind-spot D))
      where
        go : (x y : Bool) → behind f C s ≡ x → behind f D s ≡ y → x && (not y && above C D s) ≡ x && (not y && above C D (spot f A B s))
        go true true e g = refl
        go true false e g = above-spot (record { from_low = lt-le (lt_z-true (pos 0) (ahead f C s) e); to_high = lt_z-false (pos 0) (ahead f D s) g }) e g
        go false y e g = refl

-- ---- the border

-- the middle of e
abbrev pub middle_of : Mesh → Arrow → Point
middle_of m e = middle (at m e.from) (at m e.to)

middle-between : (f : Form) (A B : Place) → pos 0 <ℤ rise f A B → Strictly f A B (middle A B)
middle-between f A B h = record {
  weight = omega (arith, onℤ);
  on_line = ring4 (λ a b c d. (left_expr a b c d (a :+ c) (b :+ d) (K (pos 2)), K (pos 0))) A.x A.y B.x B.y tt;
  past-low = subst (λ k. pos 0 <ℤ k) (ring6 (λ f g a b c d. ((f :* c :+ g :* d) :- (f :* a :+ g :* b), ahead_expr f g a b (a :+ c) (b :+ d) (K (pos 2)))) f.along f.across A.x A.y B.x B.y tt) h;
  before-high = below-of-minus (ahead f B (middle A B))
      (subst (λ k. pos 0 <ℤ k) (ring6 (λ f g a b c d. ((f :* c :+ g :* d) :- (f :* a :+ g :* b), neg (ahead_expr f g c d (a :+ c) (b :+ d) (K (pos 2))))) f.along f.across A.x A.y B.x B.y tt) h);
}

-- it is strictly between the ends
pub middle-on : (f : Form) (m : Mesh) (e : Arrow) → Slanted f m e → Strictly f (low_end f m e) (high_end f m e) (middle_of m e)
middle-on f m e n = go (upward f m e) (low-high f m e n)
  where
    swapped : (A B : Place) → middle B A ≡ middle A B
    swapped A B = λ i. record { X = +ℤ_comm B.x A.x i; Y = +ℤ_comm B.y A.y i; W = pos 2 }

    go : (b : Bool) → pos 0 <ℤ rise f (cases b (at m e.from) (at m e.to)) (cases b (at m e.to) (at m e.from)) →
        Strictly f (cases b (at m e.from) (at m e.to)) (cases b (at m e.to) (at m e.from)) (middle_of m e)
    go true h = middle-between f (at m e.from) (at m e.to) h
    go false h = subst (Strictly f (at m e.to) (at m e.from)) (swapped (at m e.from) (at m e.to)) (middle-between f (at m e.to) (at m e.from) h)

-- no other border arrow meets e between its ends, and none has an end with the key of e's middle
pub record Lone (f : Form) (m : Mesh) (ts : List Tri) (e : Arrow) : Type 0 where
  pub slanted : Slanted f m e
  pub clear : All (ClearArrow f m (low_end f m e) (high_end f m e)) (others e (border ts))
  pub middle-free : All (Free f m (middle_of m e)) (others e (border ts))

-- what the other border arrows come to at e's middle
abbrev pub others_at : Form → Mesh → List Tri → Arrow → ℤ
others_at f m ts e = added (under_arrow f m (middle_of m e)) (others e (border ts))

-- and no row lies just right of e: the others come to what e itself takes away there
pub record Bare (f : Form) (m : Mesh) (ts : List Tri) (e : Arrow) : Type 0 where
  pub lone : Lone f m ts e
  pub nothing : others_at f m ts e ≡ one (not (upward f m e))

module _ (f : Form) (m : Mesh) (ts : List Tri) (no-twice : Once (arrows_of ts)) (bare : All (Bare f m ts) (border ts)) (s : Point) (w : pos 0 <ℤ s.W) (free : All (Free f m s) (border ts)) where
  abbrev A' : Arrow → Place
  A' = low_end f m

  abbrev B' : Arrow → Place
  B' = high_end f m

  gaps : Least (λ e. left (low_end f m e) (high_end f m e) s) (λ e. rise f (low_end f m e) (high_end f m e)) (beneath f m s) (border ts)
  gaps = find-least _ _ _ (All-imp (λ e b. low-high f m e b.lone.slanted) bare)

  signed-zero : (b : Bool) → signed b (pos 0) ≡ pos 0
  signed-zero true = refl
  signed-zero false = refl

  none-beneath : All (λ e. beneath f m s e ≡ false) (border ts) → added (under_arrow f m s) (border ts) ≡ pos 0
  none-beneath h =
      added-zero (under_arrow f m s)
      (All-imp (λ e (n, (b, g)). under-beneath f m e s b.lone.slanted w g ∙ ap (λ c. signed (upward f m e) (one c)) n ∙ signed-zero (upward f m e)) (All-both h (All-both bare free)))

  module _ (e : Arrow) (here : Memᴰ e (border ts)) (below : beneath f m s e ≡ true)
      (nearest : All (λ d. beneath f m s d ≡ true → (left (A' e) (B' e) s *ℤ rise f (A' d) (B' d)) ≤ℤ (left (A' d) (B' d) s *ℤ rise f (A' e) (B' e))) (border ts)) where
    own : Bare f m ts e
    own = All-at bare here

    up : pos 0 <ℤ rise f (A' e) (B' e)
    up = low-high f m e own.lone.slanted

    low-past : behind f (A' e) s ≡ true
    low-past = and_left (behind f (A' e) s) (not (behind f (B' e) s) && above (A' e) (B' e) s) below

    rest : not (behind f (B' e) s) && above (A' e) (B' e) s ≡ true
    rest = and_right (behind f (A' e) s) (not (behind f (B' e) s) && above (A' e) (B' e) s) below

    high-not : behind f (B' e) s ≡ false
    high-not = not-true (behind f (B' e) s) (and_left (not (behind f (B' e) s)) (above (A' e) (B' e) s) rest)

    spans : Spans f (A' e) (B' e) s
    spans = record {
      weight = w;
      past-low = lt_z-true (pos 0) (ahead f (A' e) s) low-past;
      before-high = below-zero (ahead f (B' e) s) (free-ends f m e s (All-at free here)).1 high-not;
    }

    over : pos 0 <ℤ left (A' e) (B' e) s
    over = lt_z-true (pos 0) (left (A' e) (B' e) s) (and_right (not (behind f (B' e) s)) (above (A' e) (B' e) s) rest)

    abbrev foot : Point
    foot = spot f (A' e) (B' e) s

    foot-on : Strictly f (A' e) (B' e) foot
    foot-on = spot-strictly f (A' e) (B' e) s up spans

    scaled-not : (a x : ℤ) → pos 0 <ℤ a → x ≢ pos 0 → a *ℤ x ≢ pos 0
    scaled-not a x h n = (sign-product a x (above-not h) n).1

    free-at : (v : Place) → ahead f v s ≢ pos 0 → ahead f v foot ≢ pos 0
    free-at v n g = scaled-not (rise f (A' e) (B' e)) (ahead f v s) up n (sym (spot-ahead f (A' e) (B' e) s v) ∙ g)

    free-foot : (d : Arrow) → Free f m s d → Free f m foot d
    free-foot d g = record { from-free = free-at (at m d.from) g.from-free; to_free = free-at (at m d.to) g.to_free }

    same-foot : (d : Arrow) → Bare f m ts d → Free f m s d → ClearArrow f m (A' e) (B' e) d →
        (beneath f m s d ≡ true → (left (A' e) (B' e) s *ℤ rise f (A' d) (B' d)) ≤ℤ (left (A' d) (B' d) s *ℤ rise f (A' e) (B' e))) →
        under_arrow f m s d ≡ under_arrow f m foot d
    same-foot d b g c n =
        under-beneath f m d s b.lone.slanted w g ∙ ap (λ x. signed (upward f m d) (one x))
        (beneath-spot f (A' e) (B' e) up s spans over (A' d) (B' d) (low-high f m d b.lone.slanted) (clear-ends f m d (A' e) (B' e) c).apart n) ∙
        sym (under-beneath f m d foot b.lone.slanted foot-on.weight (free-foot d g))

    -- all others count the same under the point and under its foot on e, and so under e's own point
    others-sum : added (under_arrow f m s) (others e (border ts)) ≡ one (not (upward f m e))
    others-sum =
        added-eq (under_arrow f m s) (under_arrow f m foot)
        (All-imp (λ d (b, (g, (c, n))). same-foot d b g c n) (All-both (kept bare) (All-both (kept free) (All-both own.lone.clear (kept nearest))))) ∙
        beside f m ts no-twice (A' e) (B' e) up e (arrow-ends f m e) (middle_of m e) foot (middle-on f m e own.lone.slanted) foot-on
        (All-imp (λ d (c, (p, g)). (c, p, free-foot d g)) (All-both own.lone.clear (All-both own.lone.middle-free (kept free)))) ∙
        own.nothing
      where
        kept : {P : Arrow → Type 0} → All P (border ts) → All P (others e (border ts))
        kept h = only_keeps (λ d. not (same_arrow e d)) h

    border-sum-least : added (under_arrow f m s) (border ts) ≡ one (upward f m e)
    border-sum-least =
        border-split ts no-twice e here (under_arrow f m s) ∙
        ap₂ ◌+ℤ◌ (under-beneath f m e s own.lone.slanted w (All-at free here) ∙ ap (λ b. signed (upward f m e) (one b)) below) others-sum ∙
        total (upward f m e)
      where
        total : (b : Bool) → signed b (pos 1) +ℤ one (not b) ≡ one b
        total true = refl
        total false = refl

  -- the border comes to 0 or 1 under the point
  pub zero-or-one : (b : Bool) × (added (under_arrow f m s) (border ts) ≡ one b)
  zero-or-one = go gaps
    where
      go : Least (λ e. left (low_end f m e) (high_end f m e) s) (λ e. rise f (low_end f m e) (high_end f m e)) (beneath f m s) (border ts) → (b : Bool) × (added (under_arrow f m s) (border ts) ≡ one b)
      go (none_passes h) = (false, none-beneath h)
      go (least e i p h) = (upward f m e, border-sum-least e i p h)

-- ---- at most one row

-- of a point off the rows no border arrow's end has the key
free-border : (f : Form) (m : Mesh) (s : Point) → OffRows f m s → All (Free f m s) (border m.tris)
free-border f m s off = only_keeps _ (All-joined arrows (All-imp row off))
  where
    row : (t : Tri) → Off f (shape m t) s → All (Free f m s) (arrows t)
    row t o =
        let p = ahead-not f (at m t.p) s o.key-p in
        let q = ahead-not f (at m t.q) s o.key-q in
        let r = ahead-not f (at m t.r) s o.key-r in
        cons (record { from-free = p; to_free = q }) (cons (record { from-free = q; to_free = r }) (cons (record { from-free = r; to_free = p }) nil))

-- where no border arrow is met and no row lies just right of one, no point off the lines is inside two rows
pub at_most_one : (f : Form) (m : Mesh) → All (λ t. pos 0 <ℤ area (shape m t)) m.tris → Once (arrows_of m.tris) → All (Bare f m m.tris) (border m.tris) →
    (s : Point) → pos 0 <ℤ s.W → OffRows f m s → depth m s ≤ 1
at_most_one f m h o bare s w off = go (zero-or-one f m m.tris o bare s w (free-border f m s off))
  where
    go : (b : Bool) × (added (under_arrow f m s) (border m.tris) ≡ one b) → depth m s ≤ 1
    go (true, e) = let g : pos (depth m s) ≡ pos 1 = depth-border f m s h o off ∙ e in omega (arith, onℤ)
    go (false, e) = let g : pos (depth m s) ≡ pos 0 = depth-border f m s h o off ∙ e in omega (arith, onℤ)
