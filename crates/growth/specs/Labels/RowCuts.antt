-- Refining in node numbers: rows cut by pattern at numbered midpoints are named by the refined labels. Assumes nothing.
use Rattle.std.specs.Prelude.{◌≡◌, refl, List, [], ◌∷◌, map, Bool, true, false, ℕ, ◌<◌}
use Rattle.std.proofs.Common.{ap, ap₂, ◌∙◌}
use Rattle.std.proofs.Math.Logic.Dec
use Rattle.growth.specs.Labels.Names.{Name, name?, mid}
use Rattle.growth.specs.Labels.Paths.{Side, L, R}
use Rattle.growth.specs.Labels.Corners.{Corners, half, corners, Edge}
use Rattle.growth.specs.Labels.Levels.{some-below?}
use Rattle.growth.specs.Labels.Cover.{Label, corners-of}
use Rattle.growth.specs.Labels.ForestRefined.{Closed}
use Rattle.growth.specs.Labels.Pieces.{ask, ask-same, leftmost, others, m?, u?, v?, mine, rest}
use Rattle.growth.specs.Labels.Named.{Named, edge-name, edge-number, named, p-below, q-below, r-below}

-- The halves of a row at the numbered midpoint of its refinement edge.
abbrev pub split : (ℕ → ℕ → ℕ) → Side → Corners ℕ → Corners ℕ
split num L r = record { p = num r.q r.r; q = r.p; r = r.q }
split num R r = record { p = num r.q r.r; q = r.r; r = r.p }

-- The row that stays and the rows that are appended, by pattern: m, u, v say whether q–r, p–q, r–p are split.
abbrev pub first-row : (ℕ → ℕ → ℕ) → Bool → Bool → Corners ℕ → Corners ℕ
first-row num false u r = r
first-row num true false r = split num L r
first-row num true true r = split num L (split num L r)

-- The appended rows, in order.
abbrev pub more_rows : (ℕ → ℕ → ℕ) → Bool → Bool → Bool → Corners ℕ → List (Corners ℕ)
more_rows num false u v r = []
more_rows num true false false r = split num R r ∷ []
more_rows num true true false r = split num R r ∷ split num R (split num L r) ∷ []
more_rows num true false true r = split num L (split num R r) ∷ split num R (split num R r) ∷ []
more_rows num true true true r = split num L (split num R r) ∷ split num R (split num L r) ∷ split num R (split num R r) ∷ []

-- A set of edges of numbered rows, closed: with an edge of a row its refinement edge.
pub record ClosedRows (t : ℕ) (rows : ℕ → Corners ℕ) (E : ℕ → ℕ → Type 0) : Type 0 where
  pub decided : (a b : ℕ) → Dec (E a b)
  pub either_way : (a b : ℕ) → E a b → E b a
  pub of-rows : (a b : ℕ) → E a b → (j : ℕ) × (j < t) × Edge (rows j) a b
  pub closed : (j : ℕ) → j < t → (a b : ℕ) → Edge (rows j) a b → E a b → E (rows j).q (rows j).r

module _ {B : List (Corners ℕ)} {t : ℕ} {lab : ℕ → Label} {n : ℕ} {name : ℕ → Name} {rows : ℕ → Corners ℕ} (N : Named B t lab n name rows)
    {E : ℕ → ℕ → Type 0} (K : ClosedRows t rows E) where
  -- The set by names.
  pub record ByName (x y : Name) : Type 0 where
    pub one : ℕ
    pub two : ℕ
    pub one_below : one < n
    pub two-below : two < n
    pub one_name : x ≡ name one
    pub two-name : y ≡ name two
    pub inside : E one two

  -- An edge in the set is in it by name,
  pub by_name : (a b : ℕ) → a < n → b < n → E a b → ByName (name a) (name b)
  by_name a b la lb h = record { one = a; two = b; one_below = la; two-below = lb; one_name = refl; two-name = refl; inside = h }

  -- and back.
  pub by_number : (a b : ℕ) → a < n → b < n → ByName (name a) (name b) → E a b
  by_number a b la lb h =
      let e = N.differ a h.one la h.one_below h.one_name in
      let f = N.differ b h.two lb h.two-below h.two-name in
      rw (e, f) h.inside

  -- It is decided.
  pub by-name? : (x y : Name) → Dec (ByName x y)
  by-name? x y = go (some-below? (λ a. Dec.and (name? x (name a)) (some-below? (λ b. Dec.and (name? y (name b)) (K.decided a b)) n)) n)
    where
      go : Dec ((a : ℕ) × (a < n) × ((x ≡ name a) × ((b : ℕ) × (b < n) × ((y ≡ name b) × E a b)))) → Dec (ByName x y)
      go (yes (a, la, (e, (b, lb, (f, h))))) = yes (record { one = a; two = b; one_below = la; two-below = lb; one_name = e; two-name = f; inside = h })
      go (no m) = no (λ h. m (h.one, h.one_below, (h.one_name, (h.two, h.two-below, (h.two-name, h.inside)))))

  -- THE SAME CLOSED SET, by names.
  pub closed-by-name : Closed B t lab ByName
  closed-by-name = record { decided = by-name?; either_way = either; of-rows = of; closed = shut }
    where
      either : (x y : Name) → ByName x y → ByName y x
      either x y h = record {
        one = h.two;
        two = h.one;
        one_below = h.two-below;
        two-below = h.one_below;
        one_name = h.two-name;
        two-name = h.one_name;
        inside = K.either_way _ _ h.inside;
      }

      of : (x y : Name) → ByName x y → (j : ℕ) × (j < t) × Edge (corners-of B (lab j)) x y
      of x y h = let (j, l, e) = K.of-rows h.one h.two h.inside in (j, l, rw (h.one_name, h.two-name) (edge-name N j l e))

      shut : (j : ℕ) → j < t → (x y : Name) → Edge (corners-of B (lab j)) x y → ByName x y → ByName (corners-of B (lab j)).q (corners-of B (lab j)).r
      shut j l x y e h =
          let e' = edge-number N j l h.one h.two h.one_below h.two-below (rw (h.one_name, h.two-name) at e) in
          rw (← N.names j l) (by_name _ _ (q-below N j l) (r-below N j l) (K.closed j l h.one h.two e' h.inside))

  -- Whether row j is halved, and its halves: by names and by numbers the same tests.
  module _ (j : ℕ) (l : j < t) where
    -- The test on q–r.
    m-same : ask (m? closed-by-name j) ≡ ask (K.decided (rows j).q (rows j).r)
    m-same = ask-same
        (λ (h : ByName (corners-of B (lab j)).q (corners-of B (lab j)).r). by_number _ _ (q-below N j l) (r-below N j l) (rw (← N.names j l) at h))
        (λ (h : E (rows j).q (rows j).r). rw (← N.names j l) (by_name _ _ (q-below N j l) (r-below N j l) h))
        (m? closed-by-name j) (K.decided (rows j).q (rows j).r)

    -- The test on p–q.
    u_same : ask (u? closed-by-name j) ≡ ask (K.decided (rows j).p (rows j).q)
    u_same = ask-same
        (λ (h : ByName (corners-of B (lab j)).p (corners-of B (lab j)).q). by_number _ _ (p-below N j l) (q-below N j l) (rw (← N.names j l) at h))
        (λ (h : E (rows j).p (rows j).q). rw (← N.names j l) (by_name _ _ (p-below N j l) (q-below N j l) h))
        (u? closed-by-name j) (K.decided (rows j).p (rows j).q)

    -- The test on r–p.
    v-same : ask (v? closed-by-name j) ≡ ask (K.decided (rows j).r (rows j).p)
    v-same = ask-same
        (λ (h : ByName (corners-of B (lab j)).r (corners-of B (lab j)).p). by_number _ _ (r-below N j l) (p-below N j l) (rw (← N.names j l) at h))
        (λ (h : E (rows j).r (rows j).p). rw (← N.names j l) (by_name _ _ (r-below N j l) (p-below N j l) h))
        (v? closed-by-name j) (K.decided (rows j).r (rows j).p)

  -- New nodes have the numbers `num`, and the names of the midpoints.
  module _ {num : ℕ → ℕ → ℕ} {name' : ℕ → Name} (old : (k : ℕ) → k < n → name' k ≡ name k)
      (new : (a b : ℕ) → E a b → name' (num a b) ≡ mid (name a) (name b)) where
    -- A half of a named row is named by the half.
    named-split : (x : Side) (r : Corners ℕ) (T : Corners Name) → named name' r ≡ T → name' (num r.q r.r) ≡ mid T.q T.r → named name' (split num x r) ≡ half x T
    named-split L r T e m = λ i. record { p = m i; q = (e i).p; r = (e i).q }
    named-split R r T e m = λ i. record { p = m i; q = (e i).r; r = (e i).p }

    module _ (j : ℕ) (l : j < t) where
      -- The row itself.
      still : named name' (rows j) ≡ corners-of B (lab j)
      still = (λ i. record { p = old _ (p-below N j l) i; q = old _ (q-below N j l) i; r = old _ (r-below N j l) i }) ∙ N.names j l

      -- A half of row j.
      halved : (x : Side) → E (rows j).q (rows j).r → named name' (split num x (rows j)) ≡ half x (corners-of B (lab j))
      halved x m = named-split x (rows j) (corners-of B (lab j)) still (new _ _ m ∙ ap (λ (r : Corners Name). mid r.q r.r) (N.names j l))

      -- A half of its left half.
      left-halved : (x : Side) → E (rows j).q (rows j).r → E (rows j).p (rows j).q → named name' (split num x (split num L (rows j))) ≡ half x (half L (corners-of B (lab j)))
      left-halved x m u = named-split x _ _ (halved L m) (new _ _ u ∙ ap (λ (r : Corners Name). mid r.p r.q) (N.names j l))

      -- A half of its right half.
      right-halved : (x : Side) → E (rows j).q (rows j).r → E (rows j).r (rows j).p → named name' (split num x (split num R (rows j))) ≡ half x (half R (corners-of B (lab j)))
      right-halved x m v = named-split x _ _ (halved R m) (new _ _ v ∙ ap (λ (r : Corners Name). mid r.r r.p) (N.names j l))

      -- By pattern, the row that stays.
      first-named : (m : Dec (E (rows j).q (rows j).r)) (u : Dec (E (rows j).p (rows j).q))
          → named name' (first-row num (ask m) (ask u) (rows j)) ≡ corners B (lab j).from (leftmost (ask m) (ask u) (lab j).path)
      first-named (no _) u = still
      first-named (yes m) (no _) = halved L m
      first-named (yes m) (yes u) = left-halved L m u

      -- By pattern, the appended rows.
      more-named : (m : Dec (E (rows j).q (rows j).r)) (u : Dec (E (rows j).p (rows j).q)) (v : Dec (E (rows j).r (rows j).p))
          → map (named name') (more_rows num (ask m) (ask u) (ask v) (rows j)) ≡ map (corners B (lab j).from) (others (ask m) (ask u) (ask v) (lab j).path)
      more-named (no _) u v = refl
      more-named (yes m) (no _) (no _) = ap (◌∷ []) (halved R m)
      more-named (yes m) (yes u) (no _) = ap₂ (λ a b. a ∷ b ∷ []) (halved R m) (left-halved R m u)
      more-named (yes m) (no _) (yes v) = ap₂ (λ a b. a ∷ b ∷ []) (right-halved L m v) (right-halved R m v)
      more-named (yes m) (yes u) (yes v) = λ i. right-halved L m v i ∷ left-halved R m u i ∷ right-halved R m v i ∷ []

      -- THE ROWS WRITTEN have the corners that the labels written say.
      pub mine-named : named name' (first-row num (ask (K.decided (rows j).q (rows j).r)) (ask (K.decided (rows j).p (rows j).q)) (rows j))
          ≡ corners B (lab j).from (mine closed-by-name j)
      mine-named = rw (m-same j l, u_same j l) (first-named (K.decided (rows j).q (rows j).r) (K.decided (rows j).p (rows j).q))

      -- And so have those appended.
      pub rest-named : map (named name') (more_rows num (ask (K.decided (rows j).q (rows j).r)) (ask (K.decided (rows j).p (rows j).q)) (ask (K.decided (rows j).r (rows j).p)) (rows j))
          ≡ map (corners B (lab j).from) (rest closed-by-name j)
      rest-named = rw (m-same j l, u_same j l, v-same j l) (more-named (K.decided (rows j).q (rows j).r) (K.decided (rows j).p (rows j).q) (K.decided (rows j).r (rows j).p))
