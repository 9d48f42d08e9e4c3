-- Points moved a little: a nudged point is on no line through two places in range and has no place's key, and it is on the same side of whatever the point
-- itself is strictly beside. So rows that share an interior point make a depth of 2. Assumes nothing.
use Rattle.std.specs.Prelude.{Bool, true, ◌≢◌, ◌≡◌, refl, ℕ, zero, suc, ◌≤◌, ◌<◌, ℤ, pos, negsuc, nat_abs, ◌+ℤ◌, ◌-ℤ◌, ◌*ℤ◌, length, get_or, ◌<ℤ◌}
use mathlib.Core.List.{List, Memᴰ}
use Rattle.std.proofs.Common.{sym, ap, subst, ◌∙◌, arith}
use Rattle.std.proofs.Math.Decide.{dec_lt}
use Rattle.whole.specs.Diff.{onℤ, sumℤ, mulℤ}
use Rattle.whole.specs.Bound.{absℤ, abs-sub, abs-mul}
use Rattle.whole.specs.Ring.{K, ◌:+◌, ◌:-◌, ◌:*◌, ring8, ring9}
use Rattle.whole.specs.Order.{positive-times}
use Rattle.lists.specs.Lists.{count}
use Rattle.lists.specs.ListsLaw.{All-at, All-of}
use Rattle.lists.specs.MembersLaw.{mem-at, at_mem}
use Rattle.lists.specs.Tally.{bit, count-tally}
use Rattle.meaning.specs.declared.Place.{Place}
use Rattle.meaning.specs.declared.Tri.{Tri}
use Rattle.meaning.specs.Mesh.{Mesh, at, turn, twice_area, tri}
use Rattle.meaning.specs.Lawful.{InRange, Lawful, row_of}
use Rattle.meaning.specs.Proper.{Shape, Point, Inside, Share, shape, left}
use Rattle.laws.specs.Area.{turn-cycle}
use Rattle.laws.specs.Pairs.{two-places}
use Rattle.border.specs.Keys.{place-range, near-x, near-y}
use Rattle.border.specs.Places.{place-eq, apart-of-turn}
use Rattle.border.specs.Signs.{zero-of-equal, equal-of-zero}
use Rattle.border.specs.Under.{Off, left_expr, key, key_at, ahead, inside, yes-inside}
use Rattle.border.specs.Count.{depth, OffRows}
use Rattle.border.specs.Clear.{steep}

-- ---- a number times a great one, and something small: the number's sign

module _ (n : ℕ) (e : ℤ) (small : nat_abs e < n) where
  pub still-above : (z : ℤ) → pos 0 <ℤ z → pos 0 <ℤ (pos n *ℤ z +ℤ e)
  still-above (pos zero) h = absurd (omega (arith, onℤ))
  still-above (pos (suc k)) h = omega (arith, onℤ, absℤ e, sumℤ (pos n *ℤ pos (suc k)) e)
  still-above (negsuc k) h = absurd (omega (arith, onℤ))

  pub still-below : (z : ℤ) → z <ℤ pos 0 → (pos n *ℤ z +ℤ e) <ℤ pos 0
  still-below (pos k) h = absurd (omega (arith, onℤ))
  still-below (negsuc k) h = omega (arith, onℤ, absℤ e, mulℤ (pos n) (negsuc k), sumℤ (pos n *ℤ negsuc k) e)

  never-zero : e ≢ pos 0 → (z : ℤ) → pos n *ℤ z +ℤ e ≢ pos 0
  never-zero d (pos zero) h = d (omega (arith, onℤ, mulℤ (pos n) (pos 0), sumℤ (pos n *ℤ pos 0) e))
  never-zero d (pos (suc k)) h = let l = still-above (pos (suc k)) (omega (arith, onℤ)) in omega (arith, onℤ)
  never-zero d (negsuc k) h = let l = still-below (negsuc k) (omega (arith, onℤ)) in omega (arith, onℤ)

-- a great number times d is no small number, but where both are 0
no-multiple : (n : ℕ) (d e : ℤ) → nat_abs e < n → d *ℤ pos n ≡ e → d ≡ pos 0
no-multiple n (pos zero) e l h = refl
no-multiple n (pos (suc k)) e l h = absurd (omega (arith, onℤ, absℤ e))
no-multiple n (negsuc k) e l h = absurd (omega (arith, onℤ, absℤ e, mulℤ (negsuc k) (pos n)))

-- ---- nudging

-- moved by 1 to the right and by 2^22 up, in parts of its weight 2^45 times over
abbrev pub nudged : Point → Point
nudged s = record { X = pos 35_184_372_088_832 *ℤ s.X +ℤ pos 1; Y = pos 35_184_372_088_832 *ℤ s.Y +ℤ pos 4_194_304; W = pos 35_184_372_088_832 *ℤ s.W }

-- what is added to left A B
abbrev shifted : Place → Place → ℤ
shifted A B = (B.x -ℤ A.x) *ℤ pos 4_194_304 -ℤ (B.y -ℤ A.y)

left-nudged : (A B : Place) (s : Point) → left A B (nudged s) ≡ pos 35_184_372_088_832 *ℤ left A B s +ℤ shifted A B
left-nudged A B s =
    ring9 (λ a b c d X Y W n h. (left_expr a b c d (n :* X :+ K (pos 1)) (n :* Y :+ h) (n :* W), n :* left_expr a b c d X Y W :+ ((c :- a) :* h :- (d :- b))))
    A.x A.y B.x B.y s.X s.Y s.W (pos 35_184_372_088_832) (pos 4_194_304) tt

ahead-nudged : (A : Place) (s : Point) → ahead steep A (nudged s) ≡ pos 35_184_372_088_832 *ℤ ahead steep A s +ℤ pos 12_582_912
ahead-nudged A s =
    ring8 (λ x y X Y W n f h. (
      (f :* (n :* X :+ K (pos 1)) :+ K (pos 1) :* (n :* Y :+ h)) :- (f :* x :+ K (pos 1) :* y) :* (n :* W),
      n :* ((f :* X :+ K (pos 1) :* Y) :- (f :* x :+ K (pos 1) :* y) :* W) :+ (f :+ h),
    ))
    A.x A.y s.X s.Y s.W (pos 35_184_372_088_832) (pos 8_388_608) (pos 4_194_304) tt

module _ {A B : Place} (a : InRange A) (b : InRange B) where
  shifted-small : nat_abs (shifted A B) < 35_184_372_088_832
  shifted-small = omega (arith, abs-sub ((B.x -ℤ A.x) *ℤ pos 4_194_304) (B.y -ℤ A.y) (abs-mul (B.x -ℤ A.x) (pos 4_194_304) {n = 4_194_304} (near-x a b) (omega arith)) (near-y a b))

  shifted-some : A ≢ B → shifted A B ≢ pos 0
  shifted-some d e =
      let w = sym (equal-of-zero ((B.x -ℤ A.x) *ℤ pos 4_194_304) (B.y -ℤ A.y) e) in
      let u = no-multiple 4_194_304 (B.x -ℤ A.x) (B.y -ℤ A.y) (omega (arith, near-y a b)) (sym w) in
      d (sym (place-eq (equal-of-zero B.x A.x u) (equal-of-zero B.y A.y (w ∙ ap (λ k. k *ℤ pos 4_194_304) u))))

  module _ (s : Point) where
    pub nudged-above : pos 0 <ℤ left A B s → pos 0 <ℤ left A B (nudged s)
    nudged-above h = subst (λ k. pos 0 <ℤ k) (sym (left-nudged A B s)) (still-above 35_184_372_088_832 (shifted A B) shifted-small (left A B s) h)

    pub nudged-off : A ≢ B → left A B (nudged s) ≢ pos 0
    nudged-off d e = never-zero 35_184_372_088_832 (shifted A B) shifted-small (shifted-some d) (left A B s) (sym (left-nudged A B s) ∙ e)

module _ (A : Place) (s : Point) where
  small : nat_abs (pos 12_582_912) < 35_184_372_088_832
  small = omega arith

  pub nudged-ahead : pos 0 <ℤ ahead steep A s → pos 0 <ℤ ahead steep A (nudged s)
  nudged-ahead h = subst (λ k. pos 0 <ℤ k) (sym (ahead-nudged A s)) (still-above 35_184_372_088_832 (pos 12_582_912) small (ahead steep A s) h)

  pub nudged-behind : ahead steep A s <ℤ pos 0 → ahead steep A (nudged s) <ℤ pos 0
  nudged-behind h = subst (λ k. k <ℤ pos 0) (sym (ahead-nudged A s)) (still-below 35_184_372_088_832 (pos 12_582_912) small (ahead steep A s) h)

  nudged-key : key steep A *ℤ (nudged s).W ≢ key_at steep (nudged s)
  nudged-key e =
      never-zero 35_184_372_088_832 (pos 12_582_912) small (λ w. omega (arith, onℤ)) (ahead steep A s) (sym (ahead-nudged A s) ∙ zero-of-equal (key_at steep (nudged s)) (key steep A *ℤ (nudged s).W) (sym e))

-- ---- rows of a lawful mesh

-- a triangle of places in range, to the left
pub record Upright (t : Shape) : Type 0 where
  pub p-in : InRange t.p
  pub q-in : InRange t.q
  pub r-in : InRange t.r
  pub pqr : pos 0 <ℤ turn t.p t.q t.r
  pub qrp : pos 0 <ℤ turn t.q t.r t.p
  pub rpq : pos 0 <ℤ turn t.r t.p t.q

-- from another corner on
abbrev pub round_shape : Shape → Shape
round_shape t = record { p = t.q; q = t.r; r = t.p }

pub upright-round : {t : Shape} → Upright t → Upright (round_shape t)
upright-round u = record { p-in = u.q-in; q-in = u.r-in; r-in = u.p-in; pqr = u.qrp; qrp = u.rpq; rpq = u.pqr }

pub row-upright : (m : Mesh) → Lawful m → {t : Tri} → Memᴰ t m.tris → Upright (shape m t)
unfolding twice_area
row-upright m law {t} i =
    let h = All-at law.positive i in
    let P = at m t.p in
    let Q = at m t.q in
    let R = at m t.r in
    record {
      p-in = place-range m law t.p;
      q-in = place-range m law t.q;
      r-in = place-range m law t.r;
      pqr = h;
      qrp = subst (λ k. pos 0 <ℤ k) (turn-cycle P Q R) h;
      rpq = subst (λ k. pos 0 <ℤ k) (turn-cycle P Q R ∙ turn-cycle Q R P) h;
    }

nudged-weight : (s : Point) → pos 0 <ℤ s.W → pos 0 <ℤ (nudged s).W
nudged-weight s w = positive-times (pos 35_184_372_088_832) s.W (omega (arith, onℤ)) w

-- a nudged point is off a row, and inside where the point was
module _ {t : Shape} (u : Upright t) (s : Point) where
  nudged-clear : pos 0 <ℤ s.W → Off steep t (nudged s)
  nudged-clear w = record {
    weight = nudged-weight s w;
    off-pq = nudged-off u.p-in u.q-in s (apart-of-turn t.p t.q t.r u.pqr);
    off-qr = nudged-off u.q-in u.r-in s (apart-of-turn t.q t.r t.p u.qrp);
    off-rp = nudged-off u.r-in u.p-in s (apart-of-turn t.r t.p t.q u.rpq);
    key-p = nudged-key t.p s;
    key-q = nudged-key t.q s;
    key-r = nudged-key t.r s;
  }

  pub nudged-inside : Inside t s → Inside t (nudged s)
  nudged-inside h = record {
    pq = nudged-above u.p-in u.q-in s h.pq;
    qr = nudged-above u.q-in u.r-in s h.qr;
    rp = nudged-above u.r-in u.p-in s h.rp;
  }

pub nudged-rows : (m : Mesh) → Lawful m → (s : Point) → pos 0 <ℤ s.W → OffRows steep m (nudged s)
nudged-rows m law s w = All-of m.tris (λ t i. nudged-clear (row-upright m law i) s w)

-- ---- two rows at one point

module _ {A : Type 0} (f : A → Bool) (d : A) (l : List A) where
  -- two members by number that pass are two
  pub count-two : (i j : ℕ) → i < j → j < length l → f (get_or l i d) ≡ true → f (get_or l j d) ≡ true → 2 ≤ count f l
  count-two i j h k e g = omega (arith, two-places (λ x. bit (f x)) l d i j h k, count-tally f l, ap bit e, ap bit g)

  -- two different members that pass are two
  count-different : {x y : A} → Memᴰ x l → Memᴰ y l → x ≢ y → f x ≡ true → f y ≡ true → 2 ≤ count f l
  count-different {x} {y} i j n e g = go (mem-at d i) (mem-at d j)
    where
      go : (k : ℕ) × (k < length l) × (get_or l k d ≡ x) → (k : ℕ) × (k < length l) × (get_or l k d ≡ y) → 2 ≤ count f l
      go (a, la, ea) (b, lb, eb) = order (dec_lt a b) (dec_lt b a)
        where
          order : Dec (a < b) → Dec (b < a) → 2 ≤ count f l
          order (yes p) q = count-two a b p lb (ap f ea ∙ e) (ap f eb ∙ g)
          order (no p) (yes q) = count-two b a q la (ap f eb ∙ g) (ap f ea ∙ e)
          order (no p) (no q) = let w : a ≡ b = omega arith in absurd (n (sym ea ∙ ap (λ k. get_or l k d) w ∙ eb))

-- no point off the rows is inside two
abbrev pub Single : Mesh → Type 0
Single m = (s : Point) → pos 0 <ℤ s.W → OffRows steep m s → depth m s ≤ 1

module _ (m : Mesh) (law : Lawful m) (most : Single m) where
  -- two different rows with one nudged point inside both
  pub not-both : (s : Point) → pos 0 <ℤ s.W → {t u : Tri} → Memᴰ t m.tris → Memᴰ u m.tris → t ≢ u → Inside (shape m t) (nudged s) → Inside (shape m u) (nudged s) → ⊥
  not-both s w {t} {u} i j n a b =
      let two = count-different (λ v. inside (shape m v) (nudged s)) (tri 0 0 0) m.tris i j n (yes-inside (shape m t) (nudged s) a) (yes-inside (shape m u) (nudged s) b) in
      omega (arith, most (nudged s) (nudged-weight s w) (nudged-rows m law s w))

  -- NOT 12: NO TWO ROWS SHARE AN INTERIOR POINT.
  pub shared-none : (i j : ℕ) → i < j → j < length m.tris → ¬ Share (shape m (row_of m.tris i)) (shape m (row_of m.tris j))
  shared-none i j h k s =
      let t = row_of m.tris i in
      let u = row_of m.tris j in
      let p = s.point in
      let a = nudged-inside (row-upright m law (at_mem m.tris i (tri 0 0 0) (omega arith))) p s.in-first in
      let b = nudged-inside (row-upright m law (at_mem m.tris j (tri 0 0 0) k)) p s.in-second in
      let two = count-two (λ v. inside (shape m v) (nudged p)) (tri 0 0 0) m.tris i j h k (yes-inside (shape m t) (nudged p) a) (yes-inside (shape m u) (nudged p) b) in
      omega (arith, most (nudged p) (nudged-weight p s.weight) (nudged-rows m law p s.weight))
