-- In a mesh with no two nodes at one place and no node strictly inside an edge, two edges on one line meet in a common node, or are one
-- edge: sums of the ends of each that come to one point are one sum. Assumes nothing.
use Rattle.std.specs.Prelude.{◌⊎◌, ◌≢◌, ◌≡◌, refl, ℕ, zero, suc, ◌+◌, ◌<◌, ℤ, pos, ◌+ℤ◌, ◌-ℤ◌, ◌*ℤ◌, length, ◌≤ℤ◌, ◌<ℤ◌}
use Rattle.std.proofs.Common.{inl, inr, sym, ap, ◌∙◌, arith}
use Rattle.std.proofs.Math.Decide.{dec_lt}
use Rattle.std.proofs.Math.IntN.{*ℤ_comm}
use Rattle.whole.specs.Diff.{onℤ, sumℤ, subℤ}
use Rattle.whole.specs.Ring.{K, ◌:+◌, ◌:*◌, ring2, ring3, ring4}
use Rattle.whole.specs.Order.{lt-or-le, positive-times, nonpos-times, times-le, times-cancel}
use Rattle.meaning.specs.declared.Place.{Place}
use Rattle.meaning.specs.Mesh.{Mesh, at}
use Rattle.meaning.specs.Proper.{StrictlyInside}
use Rattle.laws.specs.Area.{turn-back}
use Rattle.proper.specs.Between.{between-inside}
use Rattle.proper.specs.OnLine.{along, len, along-from, zero-of-mul, inside-of-along, at-start, along-swap, len-swap, between-others}
use Rattle.proper.specs.Sums.{one, two, by-x, by-y, by_one, SamePoint, SameSum, two-linear, affine-same, turn_to, along_to, along-affine}

-- no two nodes at one place
abbrev pub PlacesDiffer : Mesh → Type 0
PlacesDiffer m = (j k : ℕ) → j < k → k < length m.nodes → at m j ≢ at m k

one-node : (m : Mesh) → PlacesDiffer m → (j k : ℕ) → j < length m.nodes → k < length m.nodes → at m j ≡ at m k → j ≡ k
one-node m differ j k hj hk e = go (dec_lt j k) (dec_lt k j)
  where
    go : Dec (j < k) → Dec (k < j) → j ≡ k
    go (yes l) d = absurd (differ j k l hk e)
    go (no l) (yes d) = absurd (differ k j d hj (sym e))
    go (no l) (no d) = omega arith

-- an edge: two nodes at two places, and no node strictly inside
pub record Side (m : Mesh) (x y : ℕ) : Type 0 where
  pub from-below : x < length m.nodes
  pub to_below : y < length m.nodes
  pub long : pos 0 <ℤ len (at m x) (at m y)
  pub clear : (k : ℕ) → k < length m.nodes → ¬ StrictlyInside (at m x) (at m y) (at m k)

inside-swap : {A B P : Place} → StrictlyInside A B P → StrictlyInside B A P
inside-swap {A} {B} {P} h = record {
  on_line = turn-back A B P h.on_line;
  between = rw (ring4 (λ a b c d. (a :* b :+ c :* d, b :* a :+ d :* c)) (B.x -ℤ P.x) (A.x -ℤ P.x) (B.y -ℤ P.y) (A.y -ℤ P.y) tt) h.between;
}

side_swap : {m : Mesh} {x y : ℕ} → Side m x y → Side m y x
side_swap {m} {x} {y} E = record {
  from-below = E.to_below;
  to_below = E.from-below;
  long = rw (len-swap (at m x) (at m y)) E.long;
  clear = λ k h s. E.clear k h (inside-swap s);
}

-- ---- numbers at the ends of an edge

-- the sum of the ends, of a number that is 0 at one
two-last : (α β u v : ℤ) → u ≡ pos 0 → α *ℤ u +ℤ β *ℤ v ≡ β *ℤ v
two-last α β u v e = rw e (ring3 (λ a b v. (a :* K (pos 0) :+ b :* v, b :* v)) α β v tt)

weight-above : (w : ℕ) → 0 < w → pos 0 <ℤ pos w
weight-above w h = omega (arith, onℤ)

pub two-comm : (x y α β : ℕ) → SameSum (two x y α β) (two y x β α)
two-comm x y α β φ = ring4 (λ a b u v. (a :* u :+ b :* v, b :* v :+ a :* u)) (pos α) (pos β) (φ x) (φ y) tt

-- ---- a node at a point of an open edge lies strictly inside it

node-inside : (m : Mesh) (k w x y α β : ℕ) → pos 0 <ℤ len (at m x) (at m y) → 0 < α → 0 < β → SamePoint m (one k w) (two x y α β) → StrictlyInside (at m x) (at m y) (at m k)
node-inside m k w x y α β l h i same =
    let e : w ≡ α + β = (let f = same _ by_one in omega (arith, onℤ)) in
    between-inside (at m x) (at m y) (at m k) l (record {
      α = α;
      β = β;
      α-above = h;
      β-above = i;
      on-x = ap (λ n. pos n *ℤ (at m k).x) (sym e) ∙ same _ by-x;
      on-y = ap (λ n. pos n *ℤ (at m k).y) (sym e) ∙ same _ by-y;
    })

-- ---- what a sum of two nodes is: nothing, one node, or both

data Kind (x y α β : ℕ) : Type 0 where
  nothing : α + β ≡ 0 → SameSum (two x y α β) (λ φ. pos 0) → Kind x y α β
  node : (k w : ℕ) → (k ≡ x) ⊎ (k ≡ y) → 0 < w → SameSum (two x y α β) (one k w) → Kind x y α β
  both : 0 < α → 0 < β → Kind x y α β

kind : (x y α β : ℕ) → Kind x y α β
kind x y zero zero = nothing refl (λ φ. ring2 (λ u v. (K (pos 0) :* u :+ K (pos 0) :* v, K (pos 0))) (φ x) (φ y) tt)
kind x y zero (suc β) = node y (suc β) (inr refl) (omega arith) (λ φ. ring3 (λ b u v. (K (pos 0) :* u :+ b :* v, b :* v)) (pos (suc β)) (φ x) (φ y) tt)
kind x y (suc α) zero = node x (suc α) (inl refl) (omega arith) (λ φ. ring3 (λ a u v. (a :* u :+ K (pos 0) :* v, a :* u)) (pos (suc α)) (φ x) (φ y) tt)
kind x y (suc α) (suc β) = both (omega arith) (omega arith)

-- ---- two edges on one line with a point inside both

-- where ξ lies, seen from 0 and from L
data Lies (ξ L : ℤ) : Type 0 where
  before : ξ ≤ℤ pos 0 → Lies ξ L
  within : pos 0 <ℤ ξ → ξ <ℤ L → Lies ξ L
  past : L ≤ℤ ξ → Lies ξ L

lies : (ξ L : ℤ) → Lies ξ L
lies ξ L = go (lt-or-le (pos 0) ξ) (lt-or-le ξ L)
  where
    go : (pos 0 <ℤ ξ) ⊎ (ξ ≤ℤ pos 0) → (ξ <ℤ L) ⊎ (L ≤ℤ ξ) → Lies ξ L
    go (inr h) i = before h
    go (inl h) (inl i) = within h i
    go (inl h) (inr i) = past i

equal-weights : (m : Mesh) (x y x' y' α β α' β' : ℕ) → SamePoint m (two x y α β) (two x' y' α' β') → α + β ≡ α' + β'
equal-weights m x y x' y' α β α' β' same = let e = same _ by_one in omega (arith, onℤ)

module _ (m : Mesh) (differ : PlacesDiffer m) (x y : ℕ) (E : Side m x y) (α β : ℕ) (hα : 0 < α) (hβ : 0 < β) where
  abbrev L : ℤ
  L = len (at m x) (at m y)

  along-sum : (x' y' α' β' : ℕ) → SamePoint m (two x y α β) (two x' y' α' β') → pos β *ℤ L ≡ pos α' *ℤ along_to m x y x' +ℤ pos β' *ℤ along_to m x y y'
  along-sum x' y' α' β' same =
      sym (two-last (pos α) (pos β) (along (at m x) (at m y) (at m x)) (len (at m x) (at m y)) (along-from (at m x) (at m y)))
      ∙ affine-same (two-linear x y α β) (two-linear x' y' α' β') (along-affine m x y) same

  -- x' at or before x, and y' at y or past it
  module _ (x' y' : ℕ) (E' : Side m x' y') (α' β' : ℕ) (flat-x : turn_to m x y x' ≡ pos 0) (flat-y : turn_to m x y y' ≡ pos 0) (same : SamePoint m (two x y α β) (two x' y' α' β'))
      (low : along_to m x y x' ≤ℤ pos 0) (high : L ≤ℤ along_to m x y y') where
    at_low : along_to m x y x' ≡ pos 0
    at_low = go (lt-or-le (along_to m x y x') (pos 0))
      where
        go : (along_to m x y x' <ℤ pos 0) ⊎ (pos 0 ≤ℤ along_to m x y x') → along_to m x y x' ≡ pos 0
        go (inl l) = absurd (E'.clear x E.from-below (between-others (at m x) (at m y) (at m x') (at m y') flat-x flat-y E.long l (omega (arith, onℤ, E.long, high))))
        go (inr l) = omega (arith, onℤ)

    back-x : along (at m y) (at m x) (at m x') ≡ L
    back-x = along-swap (at m x) (at m y) (at m x') ∙ (let e = at_low in omega (arith, onℤ, subℤ (len (at m x) (at m y)) (along_to m x y x')))

    back-y : along (at m y) (at m x) (at m y') ≡ pos 0
    back-y = go (lt-or-le (along (at m y) (at m x) (at m y')) (pos 0))
      where
        swap : along (at m y) (at m x) (at m y') ≡ len (at m x) (at m y) -ℤ along_to m x y y'
        swap = along-swap (at m x) (at m y) (at m y')

        go : (along (at m y) (at m x) (at m y') <ℤ pos 0) ⊎ (pos 0 ≤ℤ along (at m y) (at m x) (at m y')) → along (at m y) (at m x) (at m y') ≡ pos 0
        go (inl l) =
            let flat-y' = turn-back (at m x) (at m y) (at m y') flat-y in
            let flat-x' = turn-back (at m x) (at m y) (at m x') flat-x in
            absurd (E'.clear y E.to_below (inside-swap (between-others (at m y) (at m x) (at m y') (at m x') flat-y' flat-x' (side_swap E).long l (rw back-x E.long))))
        go (inr l) = omega (arith, onℤ, swap, high, subℤ (len (at m x) (at m y)) (along_to m x y y'))

    same-x : x' ≡ x
    same-x = one-node m differ x' x E'.from-below E.from-below (at-start (at m x) (at m y) (at m x') flat-x E.long at_low)

    same-y : y' ≡ y
    same-y = one-node m differ y' y E'.to_below E.to_below (at-start (at m y) (at m x) (at m y') (turn-back (at m x) (at m y) (at m y') flat-y) (side_swap E).long back-y)

    same-β : β' ≡ β
    same-β =
        let far : along_to m x y y' ≡ len (at m x) (at m y) = ap (along_to m x y) same-y in
        let e = along-sum x' y' α' β' same ∙ two-last (pos α') (pos β') (along_to m x y x') (along_to m x y y') at_low ∙ ap (λ z. pos β' *ℤ z) far in
        let f = times-cancel (len (at m x) (at m y)) (pos β) (pos β') E.long
        (*ℤ_comm (len (at m x) (at m y)) (pos β) ∙ e ∙ *ℤ_comm (pos β') (len (at m x) (at m y))) in
        omega (arith, onℤ)

    ordered : SameSum (two x y α β) (two x' y' α' β')
    ordered φ =
        let e = equal-weights m x y x' y' α β α' β' same in
        let b = same-β in
        let a : α' ≡ α = omega arith in
        rw (same-x, same-y, a, b)

  overlapping : (x' y' : ℕ) → Side m x' y' → (α' β' : ℕ) → turn_to m x y x' ≡ pos 0 → turn_to m x y y' ≡ pos 0
      → SamePoint m (two x y α β) (two x' y' α' β') → SameSum (two x y α β) (two x' y' α' β')
  overlapping x' y' E' α' β' flat-x flat-y same = go (lies (along_to m x y x') L) (lies (along_to m x y y') L)
    where
      sum : pos β *ℤ L ≡ pos α' *ℤ along_to m x y x' +ℤ pos β' *ℤ along_to m x y y'
      sum = along-sum x' y' α' β' same

      inner : (k : ℕ) → k < length m.nodes → turn_to m x y k ≡ pos 0 → pos 0 <ℤ along_to m x y k → along_to m x y k <ℤ L → ⊥
      inner k h f l n = E.clear k h (inside-of-along (at m x) (at m y) (at m k) f E.long l n)

      too-low : (l ξ η : ℤ) → pos 0 <ℤ l → pos β *ℤ l ≡ pos α' *ℤ ξ +ℤ pos β' *ℤ η → ξ ≤ℤ pos 0 → η ≤ℤ pos 0 → ⊥
      too-low l ξ η g e h i = omega (
        arith,
        onℤ,
        positive-times (pos β) l (omega (arith, onℤ)) g,
        nonpos-times (pos α') ξ (omega (arith, onℤ)) h,
        nonpos-times (pos β') η (omega (arith, onℤ)) i,
        sumℤ (pos α' *ℤ ξ) (pos β' *ℤ η),
      )

      share : (p q : ℕ) (l : ℤ) → pos p *ℤ l +ℤ pos q *ℤ l ≡ pos (p + q) *ℤ l
      share p q l = ring3 (λ a b l. (a :* l :+ b :* l, (a :+ b) :* l)) (pos p) (pos q) l tt

      too-high : (l ξ η : ℤ) → pos 0 <ℤ l → pos β *ℤ l ≡ pos α' *ℤ ξ +ℤ pos β' *ℤ η → α + β ≡ α' + β' → l ≤ℤ ξ → l ≤ℤ η → ⊥
      too-high l ξ η g e w h i =
          let s = share α β l ∙ ap (λ (n : ℕ). pos n *ℤ l) w ∙ sym (share α' β' l) in
          omega (
            arith,
            onℤ,
            positive-times (pos α) l (omega (arith, onℤ)) g,
            times-le (pos α') l ξ (omega (arith, onℤ)) h,
            times-le (pos β') l η (omega (arith, onℤ)) i,
            sumℤ (pos α' *ℤ ξ) (pos β' *ℤ η),
            sumℤ (pos α' *ℤ l) (pos β' *ℤ l),
            sumℤ (pos α *ℤ l) (pos β *ℤ l),
          )

      go : Lies (along_to m x y x') L → Lies (along_to m x y y') L → SameSum (two x y α β) (two x' y' α' β')
      go (within h i) w = absurd (inner x' E'.from-below flat-x h i)
      go (before h) (within i j) = absurd (inner y' E'.to_below flat-y i j)
      go (past h) (within i j) = absurd (inner y' E'.to_below flat-y i j)
      go (before h) (before i) = absurd (too-low L (along_to m x y x') (along_to m x y y') E.long sum h i)
      go (past h) (past i) = absurd (too-high L (along_to m x y x') (along_to m x y y') E.long sum (equal-weights m x y x' y' α β α' β' same) h i)
      go (before h) (past i) = ordered x' y' E' α' β' flat-x flat-y same h i
      go (past h) (before i) = λ φ. ordered y' x' (side_swap E') β' α' flat-y flat-x (λ ψ c. same ψ c ∙ two-comm x' y' α' β' ψ) i h φ ∙ two-comm y' x' β' α' φ

-- ---- any two edges on one line, with any weights

module _ (m : Mesh) (differ : PlacesDiffer m) {x y x' y' : ℕ} (E : Side m x y) (E' : Side m x' y') (α β α' β' : ℕ)
    (flat-x : pos α' *ℤ turn_to m x y x' ≡ pos 0) (flat-y : pos β' *ℤ turn_to m x y y' ≡ pos 0) (same : SamePoint m (two x y α β) (two x' y' α' β')) where
  below : {z w k : ℕ} → Side m z w → (k ≡ z) ⊎ (k ≡ w) → k < length m.nodes
  below S (inl e) = rw e S.from-below
  below S (inr e) = rw e S.to_below

  one_place : (j k v w : ℕ) → 0 < v → SamePoint m (one j v) (one k w) → (v ≡ w) × (at m j ≡ at m k)
  one_place j k v w h s =
      (equal, λ i. record { x = cancel (at m j).x (at m k).x (s _ by-x) i; y = cancel (at m j).y (at m k).y (s _ by-y) i })
    where
      equal : v ≡ w
      equal = let e = s _ by_one in omega (arith, onℤ)

      cancel : (a b : ℤ) → pos v *ℤ a ≡ pos w *ℤ b → a ≡ b
      cancel a b e = times-cancel (pos v) a b (weight-above v h) (e ∙ ap (λ (n : ℕ). pos n *ℤ b) (sym equal))

  pub edges-meet : SameSum (two x y α β) (two x' y' α' β')
  edges-meet = go (kind x y α β) (kind x' y' α' β')
    where
      total : α + β ≡ α' + β'
      total = equal-weights m x y x' y' α β α' β' same

      go : Kind x y α β → Kind x' y' α' β' → SameSum (two x y α β) (two x' y' α' β')
      go (nothing z e) (nothing z' f) = λ φ. e φ ∙ sym (f φ)
      go (nothing z e) (node k w i h f) = absurd (let g : pos 0 ≡ pos w *ℤ pos 1 = sym (e (λ j. pos 1)) ∙ same _ by_one ∙ f (λ j. pos 1) in omega (arith, onℤ))
      go (nothing z e) (both h i) = absurd (omega (arith, total))
      go (node k w i h e) (nothing z f) = absurd (let g : pos w *ℤ pos 1 ≡ pos 0 = sym (e (λ j. pos 1)) ∙ same _ by_one ∙ f (λ j. pos 1) in omega (arith, onℤ))
      go (both h i) (nothing z f) = absurd (omega (arith, total))
      go (node k w i h e) (node l v j n f) =
          let s = one_place k l w v h (λ φ c. sym (e φ) ∙ same φ c ∙ f φ) in
          let kl = one-node m differ k l (below E i) (below E' j) s.1 in
          λ φ. e φ ∙ (λ d. pos (s.0 d) *ℤ φ (kl d)) ∙ sym (f φ)
      go (node k w i h e) (both a b) = absurd (E'.clear k (below E i) (node-inside m k w x' y' α' β' E'.long a b (λ φ c. sym (e φ) ∙ same φ c)))
      go (both a b) (node k w i h e) = absurd (E.clear k (below E' i) (node-inside m k w x y α β E.long a b (λ φ c. sym (e φ) ∙ sym (same φ c))))
      go (both a b) (both c d) =
          overlapping m differ x y E α β a b x' y' E' α' β'
          (zero-of-mul (pos α') (turn_to m x y x') (weight-above α' c) flat-x) (zero-of-mul (pos β') (turn_to m x y y') (weight-above β' d) flat-y) same
