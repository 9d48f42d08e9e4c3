-- The rows around a node that is newest everywhere: one pair of brothers or two, facing each other. Assumes nothing.
use Rattle.std.specs.Prelude.{◌≡◌, refl, ◌⊎◌, ◌≢◌, List, [], ◌∷◌, ℕ, ◌≤◌, ◌<◌}
use Rattle.std.proofs.Common.{sym, ap, ◌∙◌, inl, inr, arith}
use Rattle.std.proofs.Math.Logic.Dec
use Rattle.std.proofs.Math.Decide.{ℕ_discrete}
use Rattle.growth.specs.Labels.Names.{Name, name?, mid, mid-injective, Halfway, base-not-halfway, Same, straight, crossed}
use Rattle.growth.specs.Labels.Paths.{L, R, L≢R, Path, anchor}
use Rattle.growth.specs.Labels.Corners.{Corners, base-corner, corners, Holds, is-p, is-q, is-r, Arrow, arrow-pq, arrow-rp}
use Rattle.growth.specs.Labels.Levels.{Compatible, static, some-below?}
use Rattle.growth.specs.Labels.Cover.{Label, at, corners-of, Covers}
use Rattle.growth.specs.Labels.Newest.{NewestEverywhere, brother}

-- Whether z is a corner of t is decided.
pub holds? : (z : Name) (t : Corners Name) → Dec (Holds z t)
holds? z t = go (name? z t.p) (name? z t.q) (name? z t.r)
  where
    go : Dec (z ≡ t.p) → Dec (z ≡ t.q) → Dec (z ≡ t.r) → Dec (Holds z t)
    go (yes e) _ _ = yes (is-p e)
    go (no _) (yes e) _ = yes (is-q e)
    go (no _) (no _) (yes e) = yes (is-r e)
    go (no a) (no b) (no c) = no (λ h. elim h [ is-p e ↦ a e | is-q e ↦ b e | is-r e ↦ c e ])

-- Every directed edge is in one row.
abbrev pub ArrowsOnce : List (Corners ℕ) → ℕ → (ℕ → Label) → Type 0
ArrowsOnce B t lab = (j k : ℕ) → j < t → k < t → (x y : Name) → Arrow (corners-of B (lab j)) x y → Arrow (corners-of B (lab k)) x y → j ≡ k

-- A row stands before the rows that were cut off its left part later.
abbrev pub Ordered : ℕ → (ℕ → Label) → Type 0
Ordered t lab = (j k : ℕ) → j < t → k < t → (lab j).from ≡ (lab k).from
    → (w : Path) → anchor (lab k).path ≡ R ∷ w → anchor (lab j).path ≡ anchor w → j < k

-- Two rows that are the halves of T(from, up), at the midpoint z of its refinement edge.
pub record Pair (B : List (Corners ℕ)) (t : ℕ) (lab : ℕ → Label) (z : Name) : Type 0 where
  pub from : ℕ
  pub up : Path
  pub left : ℕ
  pub left_below : left < t
  pub left-label : lab left ≡ at from (L ∷ up)
  pub right : ℕ
  pub right-below : right < t
  pub right-label : lab right ≡ at from (R ∷ up)
  pub halves : z ≡ mid (corners B from up).q (corners B from up).r

-- The father of a pair.
abbrev pub father : {B : List (Corners ℕ)} {t : ℕ} {lab : ℕ → Label} {z : Name} → Pair B t lab z → Corners Name
father {B} P = corners B P.from P.up

-- Row k is one of the pair.
abbrev pub In : {B : List (Corners ℕ)} {t : ℕ} {lab : ℕ → Label} {z : Name} → ℕ → Pair B t lab z → Type 0
In k P = (k ≡ P.left) ⊎ (k ≡ P.right)

-- Two pairs that have their refinement edge in opposite directions.
pub record Facing {B : List (Corners ℕ)} {t : ℕ} {lab : ℕ → Label} {z : Name} (P Q : Pair B t lab z) : Type 0 where
  pub q-is-r : (father Q).q ≡ (father P).r
  pub r-is-q : (father Q).r ≡ (father P).q

-- All the rows that hold z: the pair P, or P and a pair Q that faces it.
pub data Star {B : List (Corners ℕ)} {t : ℕ} {lab : ℕ → Label} {z : Name} (P : Pair B t lab z) : Type 0 where
  two : ((k : ℕ) → k < t → Holds z (corners-of B (lab k)) → In k P) → Star P
  four : (Q : Pair B t lab z) → Facing P Q → ((k : ℕ) → k < t → Holds z (corners-of B (lab k)) → In k P ⊎ In k Q) → Star P

module _ {B : List (Corners ℕ)} {t : ℕ} {lab : ℕ → Label} {z : Name} where
  -- In a pair the left row stands first.
  pub left-first : (P : Pair B t lab z) → Ordered t lab → P.left < P.right
  left-first P O = O P.left P.right P.left_below P.right-below
      (ap (λ (l : Label). l.from) P.left-label ∙ sym (ap (λ (l : Label). l.from) P.right-label))
      P.up (ap (λ (l : Label). anchor l.path) P.right-label) (ap (λ (l : Label). anchor l.path) P.left-label)

  -- The lowest row that holds z is the left row of its pair.
  pub lowest-is-left : (P : Pair B t lab z) → Ordered t lab → (j : ℕ) → In j P → ((k : ℕ) → k < t → Holds z (corners-of B (lab k)) → j ≤ k) → j ≡ P.left
  lowest-is-left P O j (inl e) low = e
  lowest-is-left P O j (inr e) low =
      let l = low P.left P.left_below (rw P.left-label (is-p P.halves)) in
      absurd (omega (arith, left-first P O))

  -- Two pairs at z have the same refinement edge, in one direction or the other.
  pub same-or-facing : (P Q : Pair B t lab z) → Same (father P).q (father P).r (father Q).q (father Q).r
  same-or-facing P Q = mid-injective _ _ _ _ (sym P.halves ∙ Q.halves)

  -- Two pairs in one direction are one pair, for they share directed edges.
  pub one-direction : (P Q : Pair B t lab z) → ArrowsOnce B t lab → (father P).q ≡ (father Q).q → (father P).r ≡ (father Q).r
      → (P.left ≡ Q.left) × (P.right ≡ Q.right)
  one-direction P Q A e f = (
    A P.left Q.left P.left_below Q.left_below (father P).q z (rw P.left-label (arrow-rp refl P.halves)) (rw Q.left-label (arrow-rp e Q.halves)),
    A P.right Q.right P.right-below Q.right-below z (father P).r (rw P.right-label (arrow-pq P.halves refl)) (rw Q.right-label (arrow-pq Q.halves f)),
  )

  -- A row of one of two pairs in one direction is a row of the other.
  in-same : (P Q : Pair B t lab z) → ArrowsOnce B t lab → (father P).q ≡ (father Q).q → (father P).r ≡ (father Q).r → (k : ℕ) → In k Q → In k P
  in-same P Q A e f k (inl u) = inl (u ∙ sym (one-direction P Q A e f).0)
  in-same P Q A e f k (inr u) = inr (u ∙ sym (one-direction P Q A e f).1)

module _ {B : List (Corners ℕ)} (C : Compatible B) {t : ℕ} {lab : ℕ → Label} (cov : Covers B t lab) {z : Name} where
  -- A row that holds a midpoint newest everywhere is one of a pair.
  pub pair_of : Halfway z → NewestEverywhere B t lab z → (j : ℕ) → j < t → Holds z (corners-of B (lab j)) → (P : Pair B t lab z) × In j P
  pair_of H N j l h = go (lab j).from (lab j).path refl h
    where
      go : (i : ℕ) (w : Path) → lab j ≡ at i w → Holds z (corners B i w) → (P : Pair B t lab z) × In j P
      go i [] f k = absurd (base-not-halfway _ (base-corner B i z k).1 H)
      go i (L ∷ w) f k =
          let b = brother C cov z N j l i L w f k in (
            record {
              from = i;
              up = w;
              left = j;
              left_below = l;
              left-label = f;
              right = b.0;
              right-below = b.1;
              right-label = b.2;
              halves = rw f at (N j l h);
            },
            inl refl,
          )
      go i (R ∷ w) f k =
          let b = brother C cov z N j l i R w f k in (
            record {
              from = i;
              up = w;
              left = b.0;
              left_below = b.1;
              left-label = b.2;
              right = j;
              right-below = l;
              right-label = f;
              halves = rw f at (N j l h);
            },
            inr refl,
          )

  -- A father's refinement edge has two ends.
  father-q≢r : (P : Pair B t lab z) → (father P).q ≢ (father P).r
  father-q≢r P = (static B C P.from (rw P.left-label at (cov.known P.left P.left_below)) P.up).distinct.q≢r

  -- Two pairs that face each other share no row.
  pub facing-apart : (P Q : Pair B t lab z) → Facing P Q → (k : ℕ) → In k P → In k Q → ⊥
  facing-apart P Q F k (inl u) (inl v) = father-q≢r P (ap (λ (l : Label). (corners-of B l).r) (sym P.left-label ∙ ap lab (sym u ∙ v) ∙ Q.left-label) ∙ F.q-is-r)
  facing-apart P Q F k (inl u) (inr v) = L≢R (ap (λ (l : Label). l.path) (sym P.left-label ∙ ap lab (sym u ∙ v) ∙ Q.right-label))
  facing-apart P Q F k (inr u) (inl v) = L≢R (ap (λ (l : Label). l.path) (sym Q.left-label ∙ ap lab (sym v ∙ u) ∙ P.right-label))
  facing-apart P Q F k (inr u) (inr v) = father-q≢r P (sym (ap (λ (l : Label). (corners-of B l).q) (sym P.right-label ∙ ap lab (sym u ∙ v) ∙ Q.right-label) ∙ F.r-is-q))

  -- THE STAR: the rows around a midpoint newest everywhere are a pair, or two pairs that face each other.
  pub star : Halfway z → NewestEverywhere B t lab z → ArrowsOnce B t lab → (P : Pair B t lab z) → Star P
  star H N A P = go (some-below? (λ k. Dec.and (holds? z (corners-of B (lab k))) (Dec.and (Dec.not (ℕ_discrete k P.left)) (Dec.not (ℕ_discrete k P.right)))) t)
    where
      go : Dec ((k : ℕ) × (k < t) × (Holds z (corners-of B (lab k)) × (k ≢ P.left × k ≢ P.right))) → Star P
      go (yes (k, l, (h, (not_left, not_right)))) = face (pair_of H N k l h)
        where
          face : (Q : Pair B t lab z) × In k Q → Star P
          face (Q, k_q) = turn (same-or-facing P Q)
            where
              all : Facing P Q → (m : ℕ) → m < t → (M : Pair B t lab z) → In m M → Same (father P).q (father P).r (father M).q (father M).r → In m P ⊎ In m Q
              all F m lm M m_m (straight u v) = inl (in-same P M A u v m m_m)
              all F m lm M m_m (crossed u v) = inr (in-same Q M A (F.q-is-r ∙ v) (F.r-is-q ∙ u) m m_m)

              turn : Same (father P).q (father P).r (father Q).q (father Q).r → Star P
              turn (straight u v) = elim (in-same P Q A u v k k_q) [ inl a ↦ absurd (not_left a) | inr a ↦ absurd (not_right a) ]
              turn (crossed u v) =
                  let F : Facing P Q = record { q-is-r = sym v; r-is-q = sym u } in
                  four Q F (λ m lm hm. let M = pair_of H N m lm hm in all F m lm M.0 M.1 (same-or-facing P M.0))
      go (no none) = two (λ k l h. in? k l h (ℕ_discrete k P.left) (ℕ_discrete k P.right))
        where
          in? : (k : ℕ) → k < t → Holds z (corners-of B (lab k)) → Dec (k ≡ P.left) → Dec (k ≡ P.right) → In k P
          in? k l h (yes u) _ = inl u
          in? k l h (no u) (yes v) = inr v
          in? k l h (no u) (no v) = absurd (none (k, l, (h, (u, v))))
