-- Around an added node that is newest everywhere stand one or two pairs of brothers, the left one first; and there is such a node.
-- Assumes nothing.
use Rattle.std.specs.Prelude.{◌≡◌, refl, ◌⊎◌, List, [], ◌∷◌, ℕ, ◌≤◌, ◌<◌, length}
use Rattle.std.proofs.Common.{sym, ap, ap₂, subst, ◌∙◌, inl, inr, arith}
use Rattle.std.proofs.Math.Decide.{dec_le}
use Rattle.meaning.specs.declared.Place.{Place}
use Rattle.growth.specs.Labels.Names.{Name, mid, mid-same, Same, same_map, Halfway, base-not-halfway}
use Rattle.growth.specs.Labels.Paths.{Path, L, R}
use Rattle.growth.specs.Labels.Corners.{Corners, corners, base-corner, Holds, Edge}
use Rattle.growth.specs.Labels.Cover.{at, corners-of}
use Rattle.growth.specs.Labels.Newest.{NewestEverywhere, some-newest}
use Rattle.growth.specs.Labels.Star.{Pair, father, In, Star, two, four, pair_of, star, left-first, lowest-is-left, facing-apart}
use Rattle.growth.specs.Labels.Named.{Named, named, row_of, NewestOf, RowsOnce, p-below, q-below, r-below, name-p, holds-name, holds-number, edge-name, newest-named, arrows-named}
use Rattle.growth.specs.Labels.Grown.{Grown, newest-halfway}

-- A triangle that has a midpoint for a corner has been made by halving.
made : (B : List (Corners ℕ)) (i : ℕ) (w : Path) (z : Name) → Halfway z → Holds z (corners B i w) → 1 ≤ length w
made B i [] z H h = absurd (base-not-halfway _ (base-corner B i z h).1 H)
made B i (s ∷ w) z H h = omega arith

module _ {B : List (Corners ℕ)} {n₀ n t : ℕ} {rows : ℕ → Corners ℕ} {place : ℕ → Place} (G : Grown B n₀ n t rows place) where
  -- Two rows (z, a, b) and (z, c, a), the first of them first: the halves of a triangle with the corners a, b, c.
  pub record RowPair (z a b c : ℕ) : Type 0 where
    pub left : ℕ
    pub right : ℕ
    pub order : left < right
    pub right-below : right < t
    pub left_below : left < t
    pub left_is : rows left ≡ row_of z a b
    pub right_is : rows right ≡ row_of z c a
    pub from : ℕ
    pub up : Path
    pub left-label : G.lab left ≡ at from (L ∷ up)
    pub right-label : G.lab right ≡ at from (R ∷ up)
    pub father-names : named G.name (row_of a b c) ≡ corners B from up
    pub halves : G.name z ≡ mid (G.name b) (G.name c)
    pub a-below : a < n
    pub b-below : b < n
    pub c-below : c < n

  -- Row k is one of the pair.
  abbrev pub Of : {z a b c : ℕ} → ℕ → RowPair z a b c → Type 0
  Of k P = (k ≡ P.left) ⊎ (k ≡ P.right)

  -- All the rows around z: a pair, or two that face each other and have no row in common. The lowest row is P's left one.
  pub data Around (z j : ℕ) : Type 0 where
    two-rows : (a b c : ℕ) (P : RowPair z a b c) → j ≡ P.left → ((k : ℕ) → k < t → Holds z (rows k) → Of k P) → Around z j
    four-rows : (a b c d : ℕ) (P : RowPair z a b c) (Q : RowPair z d c b) → j ≡ P.left → ((k : ℕ) → Of k P → Of k Q → ⊥)
        → ((k : ℕ) → k < t → Holds z (rows k) → Of k P ⊎ Of k Q) → Around z j

  abbrev N : Named B t G.lab n G.name rows
  N = G.by_names

  -- A pair in node numbers, its ends b and c given.
  numbered : (z : ℕ) → z < n → (P : Pair B t G.lab (G.name z)) (b c : ℕ) → b < n → c < n → G.name b ≡ (father P).q → G.name c ≡ (father P).r
      → (a : ℕ) × (Q : RowPair z a b c) × (Q.left ≡ P.left) × (Q.right ≡ P.right)
  numbered z lz P b c lb lc eb ec =
      let pl = P.left_below in
      let pr = P.right-below in
      let el : named G.name (rows P.left) ≡ corners B P.from (L ∷ P.up) = N.names P.left pl ∙ ap (corners-of B) P.left-label in
      let er : named G.name (rows P.right) ≡ corners B P.from (R ∷ P.up) = N.names P.right pr ∙ ap (corners-of B) P.right-label in
      let lp = N.differ _ z (p-below N P.left pl) lz (ap (λ (r : Corners Name). r.p) el ∙ sym P.halves) in
      let lr = N.differ _ b (r-below N P.left pl) lb (ap (λ (r : Corners Name). r.r) el ∙ sym eb) in
      let rp = N.differ _ z (p-below N P.right pr) lz (ap (λ (r : Corners Name). r.p) er ∙ sym P.halves) in
      let rq = N.differ _ c (q-below N P.right pr) lc (ap (λ (r : Corners Name). r.q) er ∙ sym ec) in
      let rr = N.differ _ _ (r-below N P.right pr) (q-below N P.left pl) (ap (λ (r : Corners Name). r.r) er ∙ sym (ap (λ (r : Corners Name). r.q) el)) in (
        (rows P.left).q,
        record {
          left = P.left;
          right = P.right;
          order = left-first P G.forest.ordered;
          right-below = pr;
          left_below = pl;
          left_is = λ i. record { p = lp i; q = (rows P.left).q; r = lr i };
          right_is = λ i. record { p = rp i; q = rq i; r = rr i };
          from = P.from;
          up = P.up;
          left-label = P.left-label;
          right-label = P.right-label;
          father-names = λ i. record { p = (el i).q; q = eb i; r = ec i };
          halves = P.halves ∙ ap₂ mid (sym eb) (sym ec);
          a-below = q-below N P.left pl;
          b-below = lb;
          c-below = lc;
        },
        refl,
        refl,
      )

  -- The ends of a pair, by names.
  b-name : {z : ℕ} (P : Pair B t G.lab (G.name z)) → G.name (rows P.left).r ≡ (father P).q
  b-name P = ap (λ (r : Corners Name). r.r) (N.names P.left P.left_below ∙ ap (corners-of B) P.left-label)

  c-name : {z : ℕ} (P : Pair B t G.lab (G.name z)) → G.name (rows P.right).q ≡ (father P).r
  c-name P = ap (λ (r : Corners Name). r.q) (N.names P.right P.right-below ∙ ap (corners-of B) P.right-label)

  numbered-pair : (z : ℕ) → z < n → (P : Pair B t G.lab (G.name z))
      → (a : ℕ) × (Q : RowPair z a (rows P.left).r (rows P.right).q) × (Q.left ≡ P.left) × (Q.right ≡ P.right)
  numbered-pair z lz P = numbered z lz P (rows P.left).r (rows P.right).q (r-below N P.left P.left_below) (q-below N P.right P.right-below) (b-name P) (c-name P)

  module _ (z : ℕ) (lz : z < n) (added : n₀ ≤ z) (newest : NewestOf t rows z) where
    new : NewestEverywhere B t G.lab (G.name z)
    new = newest-named N z lz newest

    -- A ROW AT SUCH A NODE is one of a pair.
    pub pair-at : (j : ℕ) → j < t → Holds z (rows j) → (a : ℕ) × (b : ℕ) × (c : ℕ) × (Q : RowPair z a b c) × Of j Q
    pair-at j l h = go (pair_of G.compatible G.forest.covers (G.added-name z added lz) new j l (holds-name N j l h))
      where
        go : (P : Pair B t G.lab (G.name z)) × In j P → (a : ℕ) × (b : ℕ) × (c : ℕ) × (Q : RowPair z a b c) × Of j Q
        go (P, s) =
            let (a, Q, el, er) = numbered-pair z lz P in
            (a, _, _, Q, elim s [ inl u ↦ inl (u ∙ sym el) | inr u ↦ inr (u ∙ sym er) ])

    -- AROUND IT: the rows that hold it, from the lowest on.
    pub around : RowsOnce t rows → (j : ℕ) → j < t → Holds z (rows j) → ((k : ℕ) → k < t → Holds z (rows k) → j ≤ k) → Around z j
    around once j lj h low = go (pair_of G.compatible G.forest.covers (G.added-name z added lz) new j lj (holds-name N j lj h))
      where
        go : (P : Pair B t G.lab (G.name z)) × In j P → Around z j
        go (P, in_p) = build (numbered-pair z lz P) (star G.compatible G.forest.covers (G.added-name z added lz) new (arrows-named N once) P)
          where
            first : j ≡ P.left
            first = lowest-is-left P G.forest.ordered j in_p (λ k l m. low k l (holds-number N z lz k l m))

            build : (a : ℕ) × (A : RowPair z a (rows P.left).r (rows P.right).q) × (A.left ≡ P.left) × (A.right ≡ P.right) → Star P → Around z j
            build (a, A, el, er) (two all) =
                two-rows a _ _ A (first ∙ sym el) (λ k l m. elim (all k l (holds-name N k l m)) [ inl s ↦ inl (s ∙ sym el) | inr s ↦ inr (s ∙ sym er) ])
            build (a, A, el, er) (four Q f all) =
                let (d, D, fl, fr) = numbered z lz Q _ _ A.c-below A.b-below (c-name P ∙ sym f.q-is-r) (b-name P ∙ sym f.r-is-q) in
                let to_p : (k : ℕ) → In k P → Of k A = λ k s. elim s [ inl u ↦ inl (u ∙ sym el) | inr u ↦ inr (u ∙ sym er) ] in
                let to_q : (k : ℕ) → In k Q → Of k D = λ k s. elim s [ inl u ↦ inl (u ∙ sym fl) | inr u ↦ inr (u ∙ sym fr) ] in
                let of_p : (k : ℕ) → Of k A → In k P = λ k s. elim s [ inl u ↦ inl (u ∙ el) | inr u ↦ inr (u ∙ er) ] in
                let of_q : (k : ℕ) → Of k D → In k Q = λ k s. elim s [ inl u ↦ inl (u ∙ fl) | inr u ↦ inr (u ∙ fr) ] in
                four-rows a _ _ d A D (first ∙ sym el)
                (λ k u v. facing-apart G.compatible G.forest.covers P Q f k (of_p k u) (of_q k v))
                (λ k l m. elim (all k l (holds-name N k l m)) [ inl s ↦ inl (to_p k s) | inr s ↦ inr (to_q k s) ])

  -- G4: no row holds the edge that a node halves.
  pub no_edge : (z b c : ℕ) → z < n → G.name z ≡ mid (G.name b) (G.name c) → (k : ℕ) → k < t → ¬ Edge (rows k) b c
  no_edge z b c lz e k lk E =
      let (j, lj, h) = G.used z lz in
      G.forest.no_hang k lk (G.name b) (G.name c) (edge-name N k lk E)
      (record { index = j; below = lj; holds = subst (λ (x : Name). Holds x (corners-of B (G.lab j))) e (holds-name N j lj h) })

  -- G5: two nodes that halve one pair are one.
  pub one-node : (y z a b c d : ℕ) → y < n → z < n → G.name y ≡ mid (G.name a) (G.name b) → G.name z ≡ mid (G.name c) (G.name d) → Same a b c d → y ≡ z
  one-node y z a b c d ly lz e f s = N.differ y z ly lz (e ∙ mid-same (same_map G.name s) ∙ sym f)

  -- A NODE NEWEST EVERYWHERE EXISTS while a node is added.
  pub some-newest-node : n₀ < n → (v : ℕ) × (v < n) × (n₀ ≤ v) × NewestOf t rows v
  some-newest-node more =
      let (j, lj, h) = G.used n₀ more in
      let pos = made B (G.lab j).from (G.lab j).path (G.name n₀) (G.added-name n₀ (omega arith) more) (holds-name N j lj h) in
      let (k, lk, high, top) = some-newest G.compatible G.forest.covers j lj pos in
      let here = name-p N k lk in (
        (rows k).p,
        p-below N k lk,
        added (rows k).p (subst Halfway (sym here) (newest-halfway B (G.lab k).from (G.lab k).path high)) (dec_le n₀ (rows k).p),
        λ m lm g. N.differ _ _ (p-below N k lk) (p-below N m lm)
            (here ∙ top m lm (subst (λ (c : Name). Holds c (corners-of B (G.lab m))) here (holds-name N m lm g)) ∙ sym (name-p N m lm)),
      )
    where
      added : (v : ℕ) → Halfway (G.name v) → Dec (n₀ ≤ v) → n₀ ≤ v
      added v H (yes l) = l
      added v H (no l) = absurd (base-not-halfway v (G.base-name v (omega arith)) H)
