-- The rows that refining writes, by pattern and in order, are a refined family. Assumes nothing.
use Rattle.std.specs.Prelude.{◌≡◌, ◌⊎◌, ◌≢◌, Bool, true, false, ℕ, zero, suc, ◌+◌, ◌-◌, ◌≤◌, ◌<◌, length, get_or}
use Rattle.std.proofs.Math.Path.{refl}
use Rattle.std.proofs.Common.{sym, ap, ap₂, subst, ◌∙◌, inl, inr, arith}
use mathlib.Core.List.{List, [], ◌∷◌, tail, tail-eq_of_cons-eq}
use Rattle.std.proofs.Math.Decide.{dec_lt}
use Rattle.lists.specs.Lists.{All, nil, cons}
use Rattle.lists.specs.ListsLaw.{All-get_or}
use Rattle.growth.specs.Labels.Names.{Name}
use Rattle.growth.specs.Labels.Paths.{Path, L, R, L≢R, anchor, ⊑-length, anchor-⊑}
use Rattle.growth.specs.Labels.Corners.{Corners}
use Rattle.growth.specs.Labels.Cover.{Label, at}
use Rattle.growth.specs.Labels.Groups.{total, owner, lies-once, owner-lies, owner_at}
use Rattle.growth.specs.Labels.ForestRefined.{Piece, whole, one, both, Cut, Closed, Refined}

-- A decision as a test.
abbrev pub ask : {X : Type 0} → Dec X → Bool
ask (yes _) = true
ask (no _) = false

-- Decisions of two statements that follow from one another give one test.
pub ask-same : {X Y : Type 0} → (X → Y) → (Y → X) → (d : Dec X) (e : Dec Y) → ask d ≡ ask e
ask-same f g (yes x) (yes y) = refl
ask-same f g (yes x) (no n) = absurd (n (f x))
ask-same f g (no n) (yes y) = absurd (n (g y))
ask-same f g (no n) (no m) = refl

-- The piece that keeps the father's row, where m says that w is cut and u that its left half is.
abbrev pub leftmost : Bool → Bool → Path → Path
leftmost false u w = w
leftmost true false w = L ∷ w
leftmost true true w = L ∷ L ∷ w

-- The pieces that are appended, in order, where v says that the right half is cut.
abbrev pub others : Bool → Bool → Bool → Path → List Path
others false u v w = []
others true false false w = (R ∷ w) ∷ []
others true true false w = (R ∷ w) ∷ (R ∷ L ∷ w) ∷ []
others true false true w = (L ∷ R ∷ w) ∷ (R ∷ R ∷ w) ∷ []
others true true true w = (L ∷ R ∷ w) ∷ (R ∷ L ∷ w) ∷ (R ∷ R ∷ w) ∷ []

-- No element occurs twice.
abbrev Apart : {A : Type 0} → List A → Type 0
Apart [] = Unit {0}
Apart (x ∷ l) = All (λ y. x ≢ y) l × Apart l

-- What holds of all but the first holds at a later place.
All-later : {A : Type 0} {P : A → Type 0} (l : List A) (d : A) → All P (tail l) → (n : ℕ) → suc n < length l → P (get_or l (suc n) d)
All-later [] d h n k = absurd (omega arith)
All-later (x ∷ l) d h n k = All-get_or h n d (omega arith)

-- Elements at two places differ.
apart-at : {A : Type 0} (l : List A) (d : A) → Apart l → (a b : ℕ) → a < b → b < length l → get_or l a d ≢ get_or l b d
apart-at [] d h a b m k = absurd (omega arith)
apart-at (x ∷ l) d h zero zero m k = absurd (omega arith)
apart-at (x ∷ l) d h zero (suc b) m k = All-get_or h.0 b d (omega arith)
apart-at (x ∷ l) d h (suc a) zero m k = absurd (omega arith)
apart-at (x ∷ l) d h (suc a) (suc b) m k = apart-at l d h.1 a b (omega arith) (omega arith)

-- A path and itself with steps in front differ.
grown≢ : (u w : Path) → length u < length w → u ≢ w
grown≢ u w h e = let s = ap length e in omega arith

module _ (cut : Path → Type 0) (w : Path) where
  -- The leftmost piece is a piece.
  leftmost-piece : (m : Dec (cut w)) (u : Dec (cut (L ∷ w))) → Piece cut w (leftmost (ask m) (ask u) w)
  leftmost-piece (no n) u = whole n refl
  leftmost-piece (yes c) (no n) = one L c n refl
  leftmost-piece (yes c) (yes d) = both L L c d refl

  -- It keeps the anchor.
  leftmost-anchor : (m : Dec (cut w)) (u : Dec (cut (L ∷ w))) → anchor (leftmost (ask m) (ask u) w) ≡ anchor w
  leftmost-anchor (no n) u = refl
  leftmost-anchor (yes c) (no n) = refl
  leftmost-anchor (yes c) (yes d) = refl

  -- The others are pieces.
  other-pieces : (m : Dec (cut w)) (u : Dec (cut (L ∷ w))) (v : Dec (cut (R ∷ w))) → All (Piece cut w) (others (ask m) (ask u) (ask v) w)
  other-pieces (no _) u v = nil
  other-pieces (yes c) (no d) (no e) = cons (one R c e refl) nil
  other-pieces (yes c) (yes d) (no e) = cons (one R c e refl) (cons (both L R c d refl) nil)
  other-pieces (yes c) (no d) (yes e) = cons (both R L c e refl) (cons (both R R c e refl) nil)
  other-pieces (yes c) (yes d) (yes e) = cons (both R L c e refl) (cons (both L R c d refl) (cons (both R R c e refl) nil))

  -- Their anchors are longer than w.
  other-anchors : (m : Dec (cut w)) (u : Dec (cut (L ∷ w))) (v : Dec (cut (R ∷ w))) → All (λ x. length w < length (anchor x)) (others (ask m) (ask u) (ask v) w)
  other-anchors (no _) u v = nil
  other-anchors (yes c) (no d) (no e) = cons {x = R ∷ w} (omega arith) nil
  other-anchors (yes c) (yes d) (no e) = cons {x = R ∷ w} (omega arith) (cons {x = R ∷ L ∷ w} (omega arith) nil)
  other-anchors (yes c) (no d) (yes e) = cons {x = L ∷ R ∷ w} (omega arith) (cons {x = R ∷ R ∷ w} (omega arith) nil)
  other-anchors (yes c) (yes d) (yes e) = cons {x = L ∷ R ∷ w} (omega arith) (cons {x = R ∷ L ∷ w} (omega arith) (cons {x = R ∷ R ∷ w} (omega arith) nil))

  -- After the first their anchors are longer than R ∷ w.
  later-anchors : (m : Dec (cut w)) (u : Dec (cut (L ∷ w))) (v : Dec (cut (R ∷ w))) → All (λ x. suc (length w) < length (anchor x)) (tail (others (ask m) (ask u) (ask v) w))
  later-anchors (no _) u v = nil
  later-anchors (yes c) (no d) (no e) = nil
  later-anchors (yes c) (yes d) (no e) = cons {x = R ∷ L ∷ w} (omega arith) nil
  later-anchors (yes c) (no d) (yes e) = cons {x = R ∷ R ∷ w} (omega arith) nil
  later-anchors (yes c) (yes d) (yes e) = cons {x = R ∷ L ∷ w} (omega arith) (cons {x = R ∷ R ∷ w} (omega arith) nil)

  -- No two of the others are the same.
  others_apart : (m : Dec (cut w)) (u : Dec (cut (L ∷ w))) (v : Dec (cut (R ∷ w))) → Apart (others (ask m) (ask u) (ask v) w)
  others_apart (no _) u v = tt
  others_apart (yes c) (no d) (no e) = (nil, tt)
  others_apart (yes c) (yes d) (no e) = (cons {x = R ∷ L ∷ w} (grown≢ (R ∷ w) (R ∷ L ∷ w) (omega arith)) nil, (nil, tt))
  others_apart (yes c) (no d) (yes e) = (cons L≢R nil, (nil, tt))
  others_apart (yes c) (yes d) (yes e) = (cons L≢R (cons L≢R nil), (cons (λ f. L≢R (tail-eq_of_cons-eq f)) nil, (nil, tt)))

  -- Every piece is the leftmost or one of the others.
  every-piece : (m : Dec (cut w)) (u : Dec (cut (L ∷ w))) (v : Dec (cut (R ∷ w))) (w' : Path) → Piece cut w w'
      → (w' ≡ leftmost (ask m) (ask u) w) ⊎ ((n : ℕ) × (n < length (others (ask m) (ask u) (ask v) w)) × (w' ≡ get_or (others (ask m) (ask u) (ask v) w) n []))
  every-piece (no n) u v w' (whole _ e) = inl e
  every-piece (no n) u v w' (one x c _ e) = absurd (n c)
  every-piece (no n) u v w' (both x y c _ e) = absurd (n c)
  every-piece (yes c) u v w' (whole n e) = absurd (n c)
  every-piece (yes c) (no d) v w' (one L _ n e) = inl e
  every-piece (yes c) (yes d) v w' (one L _ n e) = absurd (n d)
  every-piece (yes c) u (yes d) w' (one R _ n e) = absurd (n d)
  every-piece (yes c) (no u) (no v) w' (one R _ n e) = inr (0, omega arith, e)
  every-piece (yes c) (yes u) (no v) w' (one R _ n e) = inr (0, omega arith, e)
  every-piece (yes c) (no u) v w' (both L y _ d e) = absurd (u d)
  every-piece (yes c) (yes u) v w' (both L L _ d e) = inl e
  every-piece (yes c) (yes u) (no v) w' (both L R _ d e) = inr (1, omega arith, e)
  every-piece (yes c) (yes u) (yes v) w' (both L R _ d e) = inr (1, omega arith, e)
  every-piece (yes c) u (no v) w' (both R y _ d e) = absurd (v d)
  every-piece (yes c) (no u) (yes v) w' (both R L _ d e) = inr (0, omega arith, e)
  every-piece (yes c) (yes u) (yes v) w' (both R L _ d e) = inr (0, omega arith, e)
  every-piece (yes c) (no u) (yes v) w' (both R R _ d e) = inr (1, omega arith, e)
  every-piece (yes c) (yes u) (yes v) w' (both R R _ d e) = inr (2, omega arith, e)

  -- The first of the others is not the right half's right half.
  right-right-later : (m : Dec (cut w)) (u : Dec (cut (L ∷ w))) (v : Dec (cut (R ∷ w))) (n : ℕ) → n < length (others (ask m) (ask u) (ask v) w)
      → get_or (others (ask m) (ask u) (ask v) w) n [] ≡ R ∷ R ∷ w → 0 < n
  right-right-later m u v (suc n) h f = omega arith
  right-right-later (no _) u v zero h f = absurd (omega arith)
  right-right-later (yes c) (no d) (no e) zero h f = absurd (grown≢ _ _ (omega arith) f)
  right-right-later (yes c) (yes d) (no e) zero h f = absurd (grown≢ _ _ (omega arith) f)
  right-right-later (yes c) (no d) (yes e) zero h f = absurd (L≢R f)
  right-right-later (yes c) (yes d) (yes e) zero h f = absurd (L≢R f)

module _ {B : List (Corners ℕ)} {S : Name → Name → Type 0} {t : ℕ} {lab : ℕ → Label} (K : Closed B t lab S) where
  -- Whether row j is halved,
  abbrev pub m? : (j : ℕ) → Dec (Cut B S (lab j).from (lab j).path)
  m? j = K.decided _ _

  -- its left half,
  abbrev pub u? : (j : ℕ) → Dec (Cut B S (lab j).from (L ∷ (lab j).path))
  u? j = K.decided _ _

  -- and its right half.
  abbrev pub v? : (j : ℕ) → Dec (Cut B S (lab j).from (R ∷ (lab j).path))
  v? j = K.decided _ _

  -- What row j leaves in its place.
  abbrev pub mine : ℕ → Path
  mine j = leftmost (ask (m? j)) (ask (u? j)) (lab j).path

  -- What row j appends.
  abbrev pub rest : ℕ → List Path
  rest j = others (ask (m? j)) (ask (u? j)) (ask (v? j)) (lab j).path

  -- How many it appends.
  abbrev pub size : ℕ → ℕ
  size j = length (rest j)

  -- How many rows there are afterwards.
  abbrev pub rows-after : ℕ
  rows-after = t + total size t

  -- The father of a row.
  pub father-of : ℕ → ℕ
  father-of k = elim (dec_lt k t) [ yes _ ↦ k | no _ ↦ owner size t (k - t) ]

  -- The label of a row.
  pub label_after : ℕ → Label
  label_after k = elim (dec_lt k t) [
    | yes _ ↦ at (lab k).from (mine k)
    | no _ ↦ at (lab (owner size t (k - t))).from (get_or (rest (owner size t (k - t))) (k - t - total size (owner size t (k - t))) [])
  ]

  -- A row afterwards is an old row's place, or the n-th that row j appends.
  pub data Row (k : ℕ) : Type 0 where
    kept : k < t → father-of k ≡ k → label_after k ≡ at (lab k).from (mine k) → Row k
    added : (j n : ℕ) → j < t → n < size j → k ≡ t + (total size j + n) → father-of k ≡ j → label_after k ≡ at (lab j).from (get_or (rest j) n []) → Row k

  -- Every row is one or the other.
  pub row : (k : ℕ) → k < rows-after → Row k
  unfolding father-of label_after
  row k l = go (dec_lt k t) refl refl
    where
      go : (d : Dec (k < t))
          → (elim d as (λ _. ℕ) [ yes _ ↦ k | no _ ↦ owner size t (k - t) ]) ≡ father-of k
          → (elim d as (λ _. Label) [ yes _ ↦ at (lab k).from (mine k) | no _ ↦ at (lab (owner size t (k - t))).from (get_or (rest (owner size t (k - t))) (k - t - total size (owner size t (k - t))) []) ]) ≡ label_after k
          → Row k
      go (yes h) e f = kept h (sym e) (sym f)
      go (no h) e f =
          let (b, w) = owner-lies size t (k - t) (omega arith) in
          added (owner size t (k - t)) (k - t - total size (owner size t (k - t))) b (omega (arith, w.above, w.below)) (omega (arith, w.above, w.below)) (sym e) (sym f)

  -- The n-th row that row j appends stands there.
  appended : (j n : ℕ) → j < t → n < size j → (k : ℕ) × (k < rows-after) × (label_after k ≡ at (lab j).from (get_or (rest j) n []))
  appended j n lj ln = go (row k below)
    where
      k : ℕ
      k = t + (total size j + n)

      below : k < rows-after
      below = omega (arith, (owner_at size t j n lj ln).0)

      go : Row k → (k : ℕ) × (k < rows-after) × (label_after k ≡ at (lab j).from (get_or (rest j) n []))
      go (kept h _ _) = absurd (omega arith)
      go (added j' n' _ ln' e _ f) =
          let same : j' ≡ j = lies-once size j' j (total size j + n) (record { above = omega arith; below = omega arith }) (record { above = omega arith; below = omega arith }) in
          let there : n' ≡ n = omega (arith, ap (total size) same) in
          (k, below, f ∙ ap₂ (λ (a b : ℕ). at (lab a).from (get_or (rest a) b [])) same there)

  -- The facts of the table at row j.
  module _ (j : ℕ) where
    mine-piece : Piece (Cut B S (lab j).from) (lab j).path (mine j)
    mine-piece = leftmost-piece (Cut B S (lab j).from) (lab j).path (m? j) (u? j)

    -- What row j appends are pieces.
    rest-piece : (n : ℕ) → n < size j → Piece (Cut B S (lab j).from) (lab j).path (get_or (rest j) n [])
    rest-piece n l = All-get_or (other-pieces (Cut B S (lab j).from) (lab j).path (m? j) (u? j) (v? j)) n [] l

    -- What row j leaves keeps the anchor.
    mine-anchor : anchor (mine j) ≡ anchor (lab j).path
    mine-anchor = leftmost-anchor (Cut B S (lab j).from) (lab j).path (m? j) (u? j)

    -- What it appends does not.
    rest-anchor : (n : ℕ) → n < size j → anchor (get_or (rest j) n []) ≢ anchor (lab j).path
    rest-anchor n l e =
        let s = ap length e in
        let long : length (lab j).path < length (anchor (get_or (rest j) n [])) = All-get_or (other-anchors (Cut B S (lab j).from) (lab j).path (m? j) (u? j) (v? j)) n [] l in
        omega (arith, ⊑-length (anchor-⊑ (lab j).path))

    -- It appends nothing twice.
    rest-apart : (a b : ℕ) → a < size j → b < size j → get_or (rest j) a [] ≡ get_or (rest j) b [] → a ≡ b
    rest-apart a b la lb e = go (dec_lt a b) (dec_lt b a)
      where
        ap' : Apart (rest j)
        ap' = others_apart (Cut B S (lab j).from) (lab j).path (m? j) (u? j) (v? j)

        go : Dec (a < b) → Dec (b < a) → a ≡ b
        go (yes h) _ = absurd (apart-at (rest j) [] ap' a b h lb e)
        go (no _) (yes h) = absurd (apart-at (rest j) [] ap' b a h la (sym e))
        go (no h) (no k) = omega arith

    -- Of the appended rows only the first has the right half's anchor.
    right-first : (n : ℕ) → n < size j → anchor (get_or (rest j) n []) ≡ R ∷ (lab j).path → n ≡ 0
    right-first zero l e = refl
    right-first (suc n) l e =
        let long : suc (length (lab j).path) < length (anchor (get_or (rest j) (suc n) []))
        = All-later (rest j) [] (later-anchors (Cut B S (lab j).from) (lab j).path (m? j) (u? j) (v? j)) n l in
        let s = ap length e in
        absurd (omega arith)

    -- The right half's right half is not the first.
    right-right : (n : ℕ) → n < size j → get_or (rest j) n [] ≡ R ∷ R ∷ (lab j).path → 0 < n
    right-right = right-right-later (Cut B S (lab j).from) (lab j).path (m? j) (u? j) (v? j)

    -- What row j leaves has an anchor no longer than its path.
    mine-short : length (anchor (mine j)) ≤ length (lab j).path
    mine-short = rw mine-anchor (⊑-length (anchor-⊑ (lab j).path))

  -- THE TABLE: the rows written by it are a refined family.
  pub written : Refined B S t lab rows-after label_after
  written = record {
    father = father-of;
    father-below = father-below;
    from-kept = from-kept;
    piece = piece;
    all = all;
    apart = apart;
    more = omega arith;
    kept_row = kept_row;
    kept-anchor = kept-anchor;
    new-anchor = new-anchor;
    right-last = right-last;
  }
    where
      father-below : (k : ℕ) → k < rows-after → father-of k < t
      father-below k l = elim (row k l) [ kept h e f ↦ rw e h | added j n lj ln _ e f ↦ rw e lj ]

      from-kept : (k : ℕ) → k < rows-after → (label_after k).from ≡ (lab (father-of k)).from
      from-kept k l = elim (row k l) [ kept h e f ↦ rw (e, f) | added j n lj ln _ e f ↦ rw (e, f) ]

      piece : (k : ℕ) → k < rows-after → Piece (Cut B S (lab (father-of k)).from) (lab (father-of k)).path (label_after k).path
      piece k l = elim (row k l) [ kept h e f ↦ rw (e, f) (mine-piece k) | added j n lj ln _ e f ↦ rw (e, f) (rest-piece j n ln) ]

      kept_row : (k : ℕ) → k < t → father-of k ≡ k
      kept_row k h = elim (row k (omega arith)) [ kept _ e f ↦ e | added j n lj ln g e f ↦ absurd (omega arith) ]

      kept_label : (k : ℕ) → k < t → label_after k ≡ at (lab k).from (mine k)
      kept_label k h = elim (row k (omega arith)) [ kept _ e f ↦ f | added j n lj ln g e f ↦ absurd (omega arith) ]

      kept-anchor : (k : ℕ) → k < t → anchor (label_after k).path ≡ anchor (lab k).path
      kept-anchor k h = rw (kept_label k h) (mine-anchor k)

      new-anchor : (k : ℕ) → t ≤ k → k < rows-after → anchor (label_after k).path ≢ anchor (lab (father-of k)).path
      new-anchor k h l = elim (row k l) [ kept m e f ↦ absurd (omega arith) | added j n lj ln g e f ↦ rw (e, f) (rest-anchor j n ln) ]

      all : (j : ℕ) → j < t → (w' : Path) → Piece (Cut B S (lab j).from) (lab j).path w' → (k : ℕ) × (k < rows-after) × (label_after k ≡ at (lab j).from w')
      all j lj w' p = elim (every-piece (Cut B S (lab j).from) (lab j).path (m? j) (u? j) (v? j) w' p) [
        | inl e ↦ (j, omega arith, kept_label j lj ∙ ap (at (lab j).from) (sym e))
        | inr g ↦ let (k, l, f) = appended j g.0 lj g.1 in (k, l, f ∙ ap (at (lab j).from) (sym g.2))
      ]

      apart : (a b : ℕ) → a < rows-after → b < rows-after → father-of a ≡ father-of b → (label_after a).path ≡ (label_after b).path → a ≡ b
      apart a b la lb e w = go (row a la) (row b lb)
        where
          mixed : (c j n : ℕ) → c ≡ j → n < size j → mine c ≡ get_or (rest j) n [] → ⊥
          mixed c j n s ln w' = rest-anchor j n ln (ap anchor (sym w') ∙ mine-anchor c ∙ ap (λ (x : ℕ). anchor (lab x).path) s)

          go : Row a → Row b → a ≡ b
          go (kept _ e₁ f₁) (kept _ e₂ f₂) = sym e₁ ∙ e ∙ e₂
          go (kept _ e₁ f₁) (added j n lj ln g e₂ f₂) = absurd (mixed a j n (sym e₁ ∙ e ∙ e₂) ln (rw (f₁, f₂) at w))
          go (added j n lj ln g e₁ f₁) (kept _ e₂ f₂) = absurd (mixed b j n (sym e₂ ∙ sym e ∙ e₁) ln (sym (rw (f₁, f₂) at w)))
          go (added i m li lm g₁ e₁ f₁) (added j n lj ln g₂ e₂ f₂) =
              let s : i ≡ j = sym e₁ ∙ e ∙ e₂ in
              let w' : get_or (rest j) m [] ≡ get_or (rest j) n [] = ap (λ (x : ℕ). get_or (rest x) m []) (sym s) ∙ (rw (f₁, f₂) at w) in
              let q : m ≡ n = rest-apart j m n (subst (λ (x : ℕ). m < size x) s lm) ln w' in
              omega (arith, ap (total size) s)

      right-last : (a b : ℕ) → a < rows-after → b < rows-after → father-of a ≡ father-of b
          → anchor (label_after a).path ≡ R ∷ (lab (father-of a)).path → (label_after b).path ≡ R ∷ R ∷ (lab (father-of b)).path → a < b
      right-last a b la lb e p q = go (row a la) (row b lb)
        where
          go : Row a → Row b → a < b
          go ra (kept h e₂ f₂) =
              let q' : mine b ≡ R ∷ R ∷ (lab b).path = rw (e₂, f₂) at q in
              let s = ap (λ (x : Path). length (anchor x)) q' in
              absurd (omega (arith, mine-short b))
          go (kept h e₁ f₁) (added j n lj ln g₂ e₂ f₂) = omega arith
          go (added i m li lm g₁ e₁ f₁) (added j n lj ln g₂ e₂ f₂) =
              let s : i ≡ j = sym e₁ ∙ e ∙ e₂ in
              let z : m ≡ 0 = right-first i m lm (rw (e₁, f₁) at p) in
              let o : 0 < n = right-right j n ln (rw (e₂, f₂) at q) in
              omega (arith, ap (total size) s)
