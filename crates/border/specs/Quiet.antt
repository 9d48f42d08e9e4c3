-- A quiet border: no arrow of it begins on another, but in a node of both, and no two cross. Then each arrow is alone: no other meets it between its ends, nor has
-- an end with the key of its middle. Assumes nothing.
use Rattle.std.specs.Prelude.{Bool, true, false, not, ◌≡◌, refl, ℕ, eqb, pos, ℤ, neg_ℤ, ◌+ℤ◌, ◌-ℤ◌, ◌*ℤ◌, ◌<ℤ◌, ◌≢◌}
use mathlib.Core.List.{List, Memᴰ}
use Rattle.std.proofs.Common.{sym, ap, subst, ◌∙◌, ap₂, arith, eqb-true, eq-eqb}
use Rattle.std.proofs.lemmas.Bool.{not-true}
use Rattle.lists.specs.Lists.{any, cases, All, nil, cons}
use Rattle.lists.specs.ListsLaw.{clash, any_at, All-at, All-imp, All-of, All-joined}
use Rattle.lists.specs.MembersLaw.{only_out, only-passes, count-some, any-count, only_keeps}
use Rattle.lists.specs.AnyLaw.{any-joined}
use Rattle.meaning.specs.declared.Place.{Place}
use Rattle.meaning.specs.declared.Tri.{Tri}
use Rattle.meaning.specs.Mesh.{Mesh, Arrow, arrows, same_arrow, holds_arrow, at, turn}
use Rattle.meaning.specs.Proper.{StrictlyInside, facing, area, shape}
use Rattle.laws.specs.Edges.{eq-arrow}
use Rattle.laws.specs.Area.{turn-cycle}
use Rattle.whole.specs.Diff.{onℤ, sumℤ, subℤ, mulℤ, negℤ-ud}
use Rattle.whole.specs.Ring.{K, ◌:+◌, ◌:-◌, ◌:*◌, neg, ring2, ring3, ring6, ring8, combine₁, combine₂}
use Rattle.proper.specs.OnLine.{len}
use Rattle.border.specs.Places.{apart-of-turn, place-eq}
use Rattle.border.specs.Keys.{place-range, steep-doubles}
use Rattle.border.specs.Clear.{steep}
use Rattle.border.specs.Count.{areas-above}
use Rattle.meaning.specs.Lawful.{Lawful}
use Rattle.border.specs.Signs.{zero-swapped}
use Rattle.border.specs.Under.{Form, key, ahead}
use Rattle.border.specs.Cancel.{Once, reverse, arrows_of, border, leave-arrive}
use Rattle.border.specs.Segment.{rise}
use Rattle.border.specs.Beside.{ClearArrow, others}
use Rattle.border.specs.Nearest.{upward, low_end, high_end, Slanted, low-high, Lone, middle_of}
use Rattle.border.specs.Meet.{Cross, Missed, missed-back, missed_first, apart-missed, len-above}

-- node k is not strictly inside e, and stands at an end's place only if it is that end
pub record NoTouch (m : Mesh) (e : Arrow) (k : ℕ) : Type 0 where
  pub not-inside : ¬ StrictlyInside (at m e.from) (at m e.to) (at m k)
  pub at-start : at m k ≡ at m e.from → k ≡ e.from
  pub at-end : at m k ≡ at m e.to → k ≡ e.to

-- what is found of no pair of border arrows
pub record Quiet (m : Mesh) : Type 0 where
  pub no_touch : (e d : Arrow) → Memᴰ e (border m.tris) → Memᴰ d (border m.tris) → NoTouch m e d.from
  pub no-cross : (e d : Arrow) → Memᴰ e (border m.tris) → Memᴰ d (border m.tris) → ¬ Cross (at m e.from) (at m e.to) (at m d.from) (at m d.to)

-- the reverse of a border arrow is in no row
not-reversed : (ts : List Tri) (e d : Arrow) → Memᴰ e (border ts) → Memᴰ d (arrows_of ts) → same_arrow (reverse e) d ≡ true → ⊥
not-reversed ts e d i j h =
    let a = All-at (only-passes (λ (d : Arrow). not (any (holds_arrow (reverse d)) ts)) (arrows_of ts)) i in
    let b = any_at (same_arrow (reverse e)) h j in
    clash (sym a ∙ ap not (sym (any-joined (same_arrow (reverse e)) arrows ts) ∙ b))

module _ (f : Form) (m : Mesh) (no-twice : Once (arrows_of m.tris)) (slanted : All (Slanted f m) (border m.tris)) (quiet : Quiet m) where
  -- every border node is a border arrow's start, so starts are enough
  any-end : (e d : Arrow) → Memᴰ e (border m.tris) → Memᴰ d (border m.tris) → NoTouch m e d.to
  any-end e d i j =
      let c = any-count (λ (x : Arrow). eqb x.to d.to) (border m.tris) (any_at (λ (x : Arrow). eqb x.to d.to) (eq-eqb d.to d.to refl) j) in
      let (x, k, h) = count-some (λ (x : Arrow). eqb x.from d.to) (border m.tris) (let g = leave-arrive d.to m.tris no-twice in omega arith) in
      subst (NoTouch m e) (eqb-true x.from d.to h) (quiet.no_touch e x i k)

  pub missed : (e d : Arrow) → Memᴰ e (border m.tris) → Memᴰ d (border m.tris) → same_arrow e d ≡ false →
      Missed (at m e.from) (at m e.to) (at m d.from) (at m d.to)
  missed e d i j n = record {
    c_out = (quiet.no_touch e d i j).not-inside;
    d-out = (any-end e d i j).not-inside;
    a-out = (quiet.no_touch d e j i).not-inside;
    b-out = (any-end d e j i).not-inside;
    no-cross = quiet.no-cross e d i j;
    not_same = λ p q. clash (sym (eq-arrow e d.from d.to (sym ((quiet.no_touch e d i j).at-start (sym p))) (sym ((any-end e d i j).at-end (sym q)))) ∙ n);
    not-turned = λ p q. not-reversed m.tris e d i (only_out (λ d. not (any (holds_arrow (reverse d)) m.tris)) (arrows_of m.tris) j)
        (eq-arrow (reverse e) d.from d.to (sym ((quiet.no_touch e d i j).at-end (sym q))) (sym ((any-end e d i j).at-start (sym p))));
  }

  pub clear_of : (e d : Arrow) → Memᴰ e (border m.tris) → Memᴰ d (border m.tris) → same_arrow e d ≡ false → ClearArrow f m (low_end f m e) (high_end f m e) d
  clear_of e d i j n = record {
    slanted = All-at slanted j;
    apart = apart-missed f (low_end f m e) (high_end f m e) (at m d.from) (at m d.to) up (All-at slanted j) both;
    apart-back = apart-missed f (low_end f m e) (high_end f m e) (at m d.to) (at m d.from) up (λ g. All-at slanted j (zero-swapped (key f (at m d.from)) (key f (at m d.to)) g)) (missed-back both);
  }
    where
      up : pos 0 <ℤ rise f (low_end f m e) (high_end f m e)
      up = low-high f m e (All-at slanted i)

      both : Missed (low_end f m e) (high_end f m e) (at m d.from) (at m d.to)
      both = go (upward f m e)
        where
          go : (b : Bool) → Missed (cases b (at m e.from) (at m e.to)) (cases b (at m e.to) (at m e.from)) (at m d.from) (at m d.to)
          go true = missed e d i j n
          go false = missed_first (missed e d i j n)

-- ---- no arrow of a lawful mesh is along the lines of the steep key

module _ (m : Mesh) (law : Lawful m) where
  side-slanted : (a b c : ℕ) → pos 0 <ℤ turn (at m a) (at m b) (at m c) → rise steep (at m a) (at m b) ≢ pos 0
  side-slanted a b c h e =
      let (x, y) = steep-doubles (place-range m law a) (place-range m law a) (place-range m law b) (level (key steep (at m a)) (key steep (at m b)) e) in
      apart-of-turn (at m a) (at m b) (at m c) h (place-eq (other x) (other y))
    where
      level : (p q : ℤ) → q -ℤ p ≡ pos 0 → p +ℤ p ≡ p +ℤ q
      level p q e = omega (arith, onℤ, subℤ q p, sumℤ p p, sumℤ p q)

      other : {p q : ℤ} → p +ℤ p ≡ p +ℤ q → p ≡ q
      other {p} {q} e = omega (arith, onℤ, sumℤ p p, sumℤ p q)

  all-slanted : All (Slanted steep m) (arrows_of m.tris)
  all-slanted = All-joined arrows (All-imp row (areas-above m law))
    where
      row : (t : Tri) → pos 0 <ℤ area (shape m t) → All (Slanted steep m) (arrows t)
      row t h =
          let P = at m t.p in
          let Q = at m t.q in
          let R = at m t.r in
          let pq = side-slanted t.p t.q t.r h in
          let qr = side-slanted t.q t.r t.p (subst (λ k. pos 0 <ℤ k) (turn-cycle P Q R) h) in
          let rp = side-slanted t.r t.p t.q (subst (λ k. pos 0 <ℤ k) (turn-cycle P Q R ∙ turn-cycle Q R P) h) in
          cons pq (cons qr (cons rp nil))

  pub border-slanted : All (Slanted steep m) (border m.tris)
  border-slanted = only_keeps (λ d. not (any (holds_arrow (reverse d)) m.tris)) all-slanted

-- ---- the middle is strictly inside

four-facing : (a b v : ℤ) → v +ℤ v ≡ a +ℤ b → pos 4 *ℤ ((a -ℤ v) *ℤ (b -ℤ v)) ≡ neg_ℤ ((b -ℤ a) *ℤ (b -ℤ a))
four-facing a b v e =
    combine₁ ((v +ℤ v) -ℤ (a +ℤ b)) e (ring3 (λ a b v. (K (pos 4) :* ((a :- v) :* (b :- v)) :- neg ((b :- a) :* (b :- a)), ((v :+ v) :- (a :+ b)) :* ((v :+ v) :- (a :+ b)))) a b v tt)

middle-inside : (f : Form) (A B M : Place) → rise f A B ≢ pos 0 → M.x +ℤ M.x ≡ A.x +ℤ B.x → M.y +ℤ M.y ≡ A.y +ℤ B.y → StrictlyInside A B M
middle-inside f A B M n e g = record { on_line = half (turn A B M) on_line; between = below (facing A B M) (len A B) (len-above f A B n) four }
  where
    half : (z : ℤ) → z +ℤ z ≡ pos 0 → z ≡ pos 0
    half z h = omega (arith, onℤ, sumℤ z z)

    on_line : turn A B M +ℤ turn A B M ≡ pos 0
    on_line =
        combine₂ (neg_ℤ (B.y -ℤ A.y)) (B.x -ℤ A.x) e g
        (ring6 (λ a b c d x y. (
          (((c :- a) :* (y :- b) :- (x :- a) :* (d :- b)) :+ ((c :- a) :* (y :- b) :- (x :- a) :* (d :- b))) :- K (pos 0),
          neg (d :- b) :* ((x :+ x) :- (a :+ c)) :+ (c :- a) :* ((y :+ y) :- (b :+ d)),
        )) A.x A.y B.x B.y M.x M.y tt)

    four : pos 4 *ℤ facing A B M ≡ neg_ℤ (len A B)
    four =
        ring2 (λ p q. (K (pos 4) :* (p :+ q), K (pos 4) :* p :+ K (pos 4) :* q)) ((A.x -ℤ M.x) *ℤ (B.x -ℤ M.x)) ((A.y -ℤ M.y) *ℤ (B.y -ℤ M.y)) tt ∙
        ap₂ ◌+ℤ◌ (four-facing A.x B.x M.x e) (four-facing A.y B.y M.y g) ∙
        ring2 (λ p q. (neg p :+ neg q, neg (p :+ q))) ((B.x -ℤ A.x) *ℤ (B.x -ℤ A.x)) ((B.y -ℤ A.y) *ℤ (B.y -ℤ A.y)) tt

    below : (z k : ℤ) → pos 0 <ℤ k → pos 4 *ℤ z ≡ neg_ℤ k → z <ℤ pos 0
    below z k h e = omega (arith, onℤ, mulℤ (pos 4) z, negℤ-ud k)

-- ---- a quiet border is one of lone arrows

module _ (m : Mesh) (law : Lawful m) (quiet : Quiet m) where
  middle-free : (e : Arrow) → Memᴰ e (border m.tris) → (v : ℕ) → ¬ StrictlyInside (at m e.from) (at m e.to) (at m v) → ahead steep (at m v) (middle_of m e) ≢ pos 0
  middle-free e i v out g =
      let (x, y) = steep-doubles (place-range m law v) (place-range m law e.from) (place-range m law e.to) (double (key steep (at m v)) (key steep (at m e.from)) (key steep (at m e.to)) (sym split ∙ g)) in
      out (middle-inside steep (at m e.from) (at m e.to) (at m v) (All-at (border-slanted m law) i) x y)
    where
      split : ahead steep (at m v) (middle_of m e) ≡ (key steep (at m e.from) +ℤ key steep (at m e.to)) -ℤ (key steep (at m v) +ℤ key steep (at m v))
      split =
          ring8 (λ f g a b c d x y. ((f :* (a :+ c) :+ g :* (b :+ d)) :- (f :* x :+ g :* y) :* K (pos 2), ((f :* a :+ g :* b) :+ (f :* c :+ g :* d)) :- ((f :* x :+ g :* y) :+ (f :* x :+ g :* y))))
          steep.along steep.across (at m e.from).x (at m e.from).y (at m e.to).x (at m e.to).y (at m v).x (at m v).y tt

      double : (k a b : ℤ) → (a +ℤ b) -ℤ (k +ℤ k) ≡ pos 0 → k +ℤ k ≡ a +ℤ b
      double k a b e = omega (arith, onℤ, subℤ (a +ℤ b) (k +ℤ k))

  lone-arrow : (e : Arrow) → Memᴰ e (border m.tris) → Lone steep m m.tris e
  lone-arrow e i = record {
    slanted = All-at (border-slanted m law) i;
    clear = All-of (others e (border m.tris)) (λ d j. clear_of steep m law.no_twice (border-slanted m law) quiet e d i (back j) (differs d j));
    middle-free = All-of (others e (border m.tris)) (λ d j. record {
      from-free = middle-free e i d.from (quiet.no_touch e d i (back j)).not-inside;
      to_free = middle-free e i d.to (any-end steep m law.no_twice (border-slanted m law) quiet e d i (back j)).not-inside;
    });
  }
    where
      back : {d : Arrow} → Memᴰ d (others e (border m.tris)) → Memᴰ d (border m.tris)
      back j = only_out (λ d. not (same_arrow e d)) (border m.tris) j

      differs : (d : Arrow) → Memᴰ d (others e (border m.tris)) → same_arrow e d ≡ false
      differs d j = not-true (same_arrow e d) (All-at (only-passes (λ d. not (same_arrow e d)) (border m.tris)) j)

  pub all-lone : All (Lone steep m m.tris) (border m.tris)
  all-lone = All-of (border m.tris) lone-arrow
