-- Refining keeps a grown mesh. Assumes nothing.
use Rattle.std.specs.Prelude.{◌≡◌, ◌⊎◌, Bool, true, false, ℕ, zero, suc, ◌+◌, ◌≤◌, ◌<◌}
use Rattle.std.proofs.Math.Path.{refl, sym, ap, subst}
use Rattle.std.proofs.Common.{ap₂, ◌∙◌, inl, inr, arith}
use mathlib.Core.List.{List, [], ◌∷◌, map}
use Rattle.std.proofs.Math.Decide.{dec_lt}
use Rattle.std.proofs.Math.ListN.{length, get_or, get_or-map}
use Rattle.std.proofs.lemmas.List.{length-map}
use Rattle.lists.specs.Lists.{All, nil, cons}
use Rattle.lists.specs.ListsLaw.{All-get_or}
use Rattle.meaning.specs.declared.Place.{Place}
use Rattle.meaning.specs.Good.{Middle}
use Rattle.laws.specs.Area.{middle-swap}
use Rattle.growth.specs.Labels.Names.{Name, mid, mid-sym, mid-same, mid-injective, Same, straight, crossed, Halfway, same_map}
use Rattle.growth.specs.Labels.Paths.{Side, L, R}
use Rattle.growth.specs.Labels.Corners.{Corners, corners, Holds, is-p, is-q, is-r, Edge, edge-holds, edge-pq, edge-qr, edge-rp}
use Rattle.growth.specs.Labels.Cover.{Label, corners-of, Present, ends-present}
use Rattle.growth.specs.Labels.Forest.{Forest}
use Rattle.growth.specs.Labels.Groups.{total, total-same, total_mono}
use Rattle.growth.specs.Labels.ForestRefined.{forest-refined, Closed}
use Rattle.growth.specs.Labels.Pieces.{ask, Row, kept, added, size, rest, rows-after, label_after, written}
use Rattle.growth.specs.Labels.Named.{Named, edge-name, holds-name, named, same_number}
use Rattle.growth.specs.Labels.Grown.{Grown}
use Rattle.growth.specs.Labels.RowCuts.{split, first-row, more_rows, ClosedRows, ByName, closed-by-name, mine-named, rest-named}
use Rattle.growth.specs.Labels.Pieces as Table

-- What row r leaves in its place and appends, where E are the split edges.
module _ {E : ℕ → ℕ → Type 0} (E? : (a b : ℕ) → Dec (E a b)) (num : ℕ → ℕ → ℕ) where
  abbrev pub stays : Corners ℕ → Corners ℕ
  stays r = first-row num (ask (E? r.q r.r)) (ask (E? r.p r.q)) r

  -- The rows that it appends.
  abbrev pub appends : Corners ℕ → List (Corners ℕ)
  appends r = more_rows num (ask (E? r.q r.r)) (ask (E? r.p r.q)) (ask (E? r.r r.p)) r

-- The mesh after splitting the edges of E: new nodes n .. n'-1, each the number of one edge; the rows by pattern.
pub record Halving (n : ℕ) {t : ℕ} {rows : ℕ → Corners ℕ} {E : ℕ → ℕ → Type 0} (K : ClosedRows t rows E) (num : ℕ → ℕ → ℕ) (n' t' : ℕ) (rows' : ℕ → Corners ℕ) : Type 0 where
  pub grows : n ≤ n'
  pub num-new : (a b : ℕ) → E a b → n ≤ num a b
  pub num-below : (a b : ℕ) → E a b → num a b < n'
  pub num-same : (a b c d : ℕ) → E a b → E c d → Same a b c d → num a b ≡ num c d
  pub num-injective : (a b c d : ℕ) → E a b → E c d → num a b ≡ num c d → Same a b c d
  pub one_end : ℕ → ℕ
  pub other-end : ℕ → ℕ
  pub ends : (k : ℕ) → n ≤ k → k < n' → E (one_end k) (other-end k) × (num (one_end k) (other-end k) ≡ k)
  pub count : t' ≡ t + total (λ j. length (appends K.decided num (rows j))) t
  pub stay : (k : ℕ) → k < t → rows' k ≡ stays K.decided num (rows k)
  pub append : (j i : ℕ) → j < t → i < length (appends K.decided num (rows j))
      → rows' (t + (total (λ j. length (appends K.decided num (rows j))) j + i)) ≡ get_or (appends K.decided num (rows j)) i (rows j)

-- Past a list's end alone the default matters.
pub get_d_default : {A : Type 0} (l : List A) (i : ℕ) (c d : A) → i < length l → get_or l i c ≡ get_or l i d
get_d_default [] i c d h = absurd (omega arith)
get_d_default (x ∷ l) zero c d h = refl
get_d_default (x ∷ l) (suc i) c d h = get_d_default l i c d (omega arith)

module _ {B : List (Corners ℕ)} {n₀ n t : ℕ} {rows : ℕ → Corners ℕ} {place : ℕ → Place} (G : Grown B n₀ n t rows place)
    {E : ℕ → ℕ → Type 0} (K : ClosedRows t rows E) {num : ℕ → ℕ → ℕ} {n' t' : ℕ} {rows' : ℕ → Corners ℕ} (H : Halving n K num n' t' rows') where
  abbrev N : Named B t G.lab n G.name rows
  N = G.by_names

  abbrev name : ℕ → Name
  name = G.name

  abbrev lab : ℕ → Label
  lab = G.lab

  -- The edges of E by names.
  abbrev S : Closed B t G.lab (ByName G.by_names K)
  S = closed-by-name G.by_names K

  -- Whether q–r, p–q and r–p of row j are split.
  abbrev dm : (j : ℕ) → Dec (E (rows j).q (rows j).r)
  dm j = K.decided (rows j).q (rows j).r

  abbrev du : (j : ℕ) → Dec (E (rows j).p (rows j).q)
  du j = K.decided (rows j).p (rows j).q

  abbrev dv : (j : ℕ) → Dec (E (rows j).r (rows j).p)
  dv j = K.decided (rows j).r (rows j).p

  -- The names afterwards: a new node has the midpoint's.
  pub name-after : ℕ → Name
  name-after k = elim (dec_lt k n) [ yes _ ↦ name k | no _ ↦ mid (name (H.one_end k)) (name (H.other-end k)) ]

  -- Old nodes keep their names.
  old-name : (k : ℕ) → k < n → name-after k ≡ name k
  unfolding name-after
  old-name k l = go (dec_lt k n)
    where
      go : (d : Dec (k < n)) → (elim d as (λ _. Name) [ yes _ ↦ name k | no _ ↦ mid (name (H.one_end k)) (name (H.other-end k)) ]) ≡ name k
      go (yes _) = refl
      go (no m) = absurd (m l)

  -- A new node is named by its two ends.
  added-name : (k : ℕ) → n ≤ k → name-after k ≡ mid (name (H.one_end k)) (name (H.other-end k))
  unfolding name-after
  added-name k l = go (dec_lt k n)
    where
      go : (d : Dec (k < n)) → (elim d as (λ _. Name) [ yes _ ↦ name k | no _ ↦ mid (name (H.one_end k)) (name (H.other-end k)) ]) ≡ mid (name (H.one_end k)) (name (H.other-end k))
      go (yes m) = absurd (omega arith)
      go (no _) = refl

  -- The node of the edge {a, b} is named the midpoint of a and b.
  new-name : (a b : ℕ) → E a b → name-after (num a b) ≡ mid (name a) (name b)
  new-name a b h =
      let k = num a b in
      let e = H.ends k (H.num-new a b h) (H.num-below a b h) in
      added-name k (H.num-new a b h) ∙ mid-same (same_map name (H.num-injective _ _ a b e.0 h e.1))

  -- The labels afterwards.
  pub labels-after : ℕ → Label
  labels-after = label_after S

  -- As many rows are appended by numbers as by labels.
  size_same : (j : ℕ) → j < t → length (appends K.decided num (rows j)) ≡ size S j
  size_same j l = sym (length-map (appends K.decided num (rows j)) (named name-after))
      ∙ ap length (rest-named N K old-name new-name j l)
      ∙ length-map (rest S j) (corners B (lab j).from)

  -- So there are as many rows.
  count_same : t' ≡ rows-after S
  count_same = H.count ∙ ap (t +◌) (total-same _ _ t size_same)

  -- The labels afterwards are a forest.
  forest-after : Forest B t' labels-after
  unfolding labels-after
  forest-after = subst (λ (x : ℕ). Forest B x labels-after) (sym count_same)
      (forest-refined G.forest (S)
      (written S))

  -- The rows afterwards have the names that the labels say.
  names-after : (k : ℕ) → k < t' → named name-after (rows' k) ≡ corners-of B (labels-after k)
  unfolding labels-after
  names-after k l = go (Table.row S k (rw count_same at l))
    where
      go : Row S k → named name-after (rows' k) ≡ corners-of B (label_after S k)
      go (kept h _ f) = rw (H.stay k h, f) (mine-named N K old-name new-name k h)
      go (added j i lj li e _ f) =
          let li' : i < length (appends K.decided num (rows j)) = rw (size_same j lj) li in
          let e' : k ≡ t + (total (λ j. length (appends K.decided num (rows j))) j + i)
          = e ∙ ap (λ (x : ℕ). t + (x + i)) (sym (total-same _ _ j (λ m lm. size_same m (omega arith)))) in
          let here : rows' k ≡ get_or (appends K.decided num (rows j)) i (rows j) = ap rows' e' ∙ H.append j i lj li' in
          rw f (ap (named name-after) here
          ∙ sym (get_or-map (named name-after) (appends K.decided num (rows j)) i (rows j))
          ∙ ap (λ (x : List (Corners Name)). get_or x i (named name-after (rows j))) (rest-named N K old-name new-name j lj)
          ∙ get_d_default (map (corners B (lab j).from) (rest S j)) i (named name-after (rows j)) (corners B (lab j).from []) (rw (length-map (rest S j) (corners B (lab j).from)) li)
          ∙ get_or-map (corners B (lab j).from) (rest S j) i [])

  -- Node numbers afterwards are below n'.
  Low : Corners ℕ → Type 0
  Low r = (x : ℕ) → Holds x r → x < n'

  -- Splitting a row keeps numbers below n'.
  low-split : (s : Side) (r : Corners ℕ) → E r.q r.r → Low r → Low (split num s r)
  unfolding Low
  low-split L r h low x (is-p e) = rw e (H.num-below _ _ h)
  low-split L r h low x (is-q e) = low x (is-p e)
  low-split L r h low x (is-r e) = low x (is-q e)
  low-split R r h low x (is-p e) = rw e (H.num-below _ _ h)
  low-split R r h low x (is-q e) = low x (is-r e)
  low-split R r h low x (is-r e) = low x (is-p e)

  -- So does what stays,
  low-stays : (r : Corners ℕ) → Low r → (m : Dec (E r.q r.r)) (u : Dec (E r.p r.q)) → Low (first-row num (ask m) (ask u) r)
  low-stays r low (no _) u = low
  low-stays r low (yes m) (no _) = low-split L r m low
  low-stays r low (yes m) (yes u) = low-split L (split num L r) u (low-split L r m low)

  -- and what is appended.
  low-appends : (r : Corners ℕ) → Low r → (m : Dec (E r.q r.r)) (u : Dec (E r.p r.q)) (v : Dec (E r.r r.p)) → All Low (more_rows num (ask m) (ask u) (ask v) r)
  low-appends r low (no _) u v = nil
  low-appends r low (yes m) (no _) (no _) = cons (low-split R r m low) nil
  low-appends r low (yes m) (yes u) (no _) = cons (low-split R r m low) (cons (low-split R (split num L r) u (low-split L r m low)) nil)
  low-appends r low (yes m) (no _) (yes v) = cons (low-split L (split num R r) v (low-split R r m low)) (cons (low-split R (split num R r) v (low-split R r m low)) nil)
  low-appends r low (yes m) (yes u) (yes v) =
      cons (low-split L (split num R r) v (low-split R r m low)) (cons (low-split R (split num L r) u (low-split L r m low)) (cons (low-split R (split num R r) v (low-split R r m low)) nil))

  -- So all rows name nodes below n'.
  nodes-after : (k : ℕ) → k < t' → (x : ℕ) → Holds x (rows' k) → x < n'
  unfolding Low
  nodes-after k l = go (Table.row S k (rw count_same at l))
    where
      before : (j : ℕ) → j < t → Low (rows j)
      before j lj x h = omega (arith, N.nodes j lj x h, H.grows)

      go : Row S k → Low (rows' k)
      go (kept h _ f) = rw (H.stay k h) (low-stays (rows k) (before k h) (dm k) (du k))
      go (added j i lj li e _ f) =
          let li' : i < length (appends K.decided num (rows j)) = rw (size_same j lj) li in
          let e' : k ≡ t + (total (λ j. length (appends K.decided num (rows j))) j + i)
          = e ∙ ap (λ (x : ℕ). t + (x + i)) (sym (total-same _ _ j (λ m lm. size_same m (omega arith)))) in
          rw (ap rows' e' ∙ H.append j i lj li')
          (All-get_or (low-appends (rows j) (before j lj) (dm j) (du j) (dv j)) i (rows j) li')

  -- An end of a split edge is a node.
  E-below : {a b : ℕ} → E a b → a < n
  E-below {a} {b} h = let (j, l, e) = K.of-rows a b h in N.nodes j l a (edge-holds e)

  -- The midpoint of a split edge is no node before.
  E-absent : (a b : ℕ) → E a b → ¬ Present B t lab (mid (name a) (name b))
  E-absent a b h = let (j, l, e) = K.of-rows a b h in G.forest.no_hang j l (name a) (name b) (edge-name N j l e)

  -- Every node is a corner by name.
  node-present : (k : ℕ) → k < n → Present B t lab (name k)
  node-present k l = let (j, lj, h) = G.used k l in record { index = j; below = lj; holds = holds-name N j lj h }

  -- Names afterwards differ.
  differ-after : (x y : ℕ) → x < n' → y < n' → name-after x ≡ name-after y → x ≡ y
  differ-after x y lx ly e = go (dec_lt x n) (dec_lt y n)
    where
      fresh : (a b : ℕ) → a < n → n ≤ b → b < n' → name-after a ≡ name-after b → ⊥
      fresh a b la lb lb' f =
          E-absent _ _ (H.ends b lb lb').0 (subst (Present B t lab) (sym (old-name a la) ∙ f ∙ added-name b lb) (node-present a la))

      go : Dec (x < n) → Dec (y < n) → x ≡ y
      go (yes hx) (yes hy) = N.differ x y hx hy (sym (old-name x hx) ∙ e ∙ old-name y hy)
      go (yes hx) (no hy) = absurd (fresh x y hx (omega arith) ly e)
      go (no hx) (yes hy) = absurd (fresh y x hy (omega arith) lx (sym e))
      go (no hx) (no hy) =
          let (ex, nx) = H.ends x (omega arith) lx in
          let (ey, ny) = H.ends y (omega arith) ly in
          sym nx ∙ H.num-same _ _ _ _ ex ey (same_number N (E-below ex) (E-below (K.either_way _ _ ex)) (E-below ey) (E-below (K.either_way _ _ ey)) (mid-injective _ _ _ _ (sym (added-name x (omega arith)) ∙ e ∙ added-name y (omega arith)))) ∙ ny

  -- E holds of the same pair.
  E-same : {a b c d : ℕ} → Same a b c d → E a b → E c d
  E-same (straight e f) h = rw (← e, ← f) h
  E-same (crossed e f) h = rw (← e, ← f) (K.either_way _ _ h)

  -- x is a corner of a piece of r, by pattern.
  abbrev Pieced : Corners ℕ → Bool → Bool → Bool → ℕ → Type 0
  Pieced r m u v x = Holds x (first-row num m u r) ⊎ ((i : ℕ) × (i < length (more_rows num m u v r)) × Holds x (get_or (more_rows num m u v r) i r))

  -- Every corner of r is one,
  corner-pieced : (r : Corners ℕ) (m u v : Bool) (x : ℕ) → Holds x r → Pieced r m u v x
  corner-pieced r false u v x h = inl h
  corner-pieced r true false v x (is-p e) = inl (is-q e)
  corner-pieced r true true v x (is-p e) = inl (is-r e)
  corner-pieced r true false v x (is-q e) = inl (is-r e)
  corner-pieced r true true false x (is-q e) = inr (1, omega arith, is-q e)
  corner-pieced r true true true x (is-q e) = inr (1, omega arith, is-q e)
  corner-pieced r true false false x (is-r e) = inr (0, omega arith, is-q e)
  corner-pieced r true true false x (is-r e) = inr (0, omega arith, is-q e)
  corner-pieced r true false true x (is-r e) = inr (0, omega arith, is-r e)
  corner-pieced r true true true x (is-r e) = inr (0, omega arith, is-r e)

  -- and so is the midpoint of a split edge of r.
  mid-pieced : (r : Corners ℕ) (m : Dec (E r.q r.r)) (u : Dec (E r.p r.q)) (v : Dec (E r.r r.p)) (a b x : ℕ) → E a b → x ≡ num a b → Edge r a b → E r.q r.r
      → Pieced r (ask m) (ask u) (ask v) x
  mid-pieced r (no n) u v a b x h e g c = absurd (n c)
  mid-pieced r (yes m) (no _) v a b x h e (edge-qr s) c = inl (is-p (e ∙ H.num-same _ _ _ _ h m s))
  mid-pieced r (yes m) (yes _) v a b x h e (edge-qr s) c = inl (is-q (e ∙ H.num-same _ _ _ _ h m s))
  mid-pieced r (yes m) (no n) v a b x h e (edge-pq s) c = absurd (n (E-same s h))
  mid-pieced r (yes m) (yes u) v a b x h e (edge-pq s) c = inl (is-p (e ∙ H.num-same _ _ _ _ h u s))
  mid-pieced r (yes m) u (no n) a b x h e (edge-rp s) c = absurd (n (E-same s h))
  mid-pieced r (yes m) (no _) (yes v) a b x h e (edge-rp s) c = inr (0, omega arith, is-p (e ∙ H.num-same _ _ _ _ h v s))
  mid-pieced r (yes m) (yes _) (yes v) a b x h e (edge-rp s) c = inr (0, omega arith, is-p (e ∙ H.num-same _ _ _ _ h v s))

  -- A corner of a piece of row j is a corner of a row afterwards.
  pieced-row : (j : ℕ) → j < t → (x : ℕ) → Pieced (rows j) (ask (dm j)) (ask (du j)) (ask (dv j)) x → (k : ℕ) × (k < t') × Holds x (rows' k)
  pieced-row j l x (inl h) = (j, omega (arith, H.count), rw (H.stay j l) h)
  pieced-row j l x (inr (i, li, h)) =
      let z : ℕ → ℕ = λ j. length (appends K.decided num (rows j)) in
      let in_all : total z j + i < total z t = omega (arith, total_mono z (suc j) t l) in
      (t + (total z j + i), omega (arith, H.count), rw (H.append j i l li) h)

  module _ {place' : ℕ → Place} (kept-place : (k : ℕ) → k < n → place' k ≡ place k)
      (put : (a b : ℕ) → E a b → Middle (place' (num a b)) (place a) (place b)) where
    -- New nodes are put at midpoints, so all nodes named midpoints stand there.
    placed-after : (k a b : ℕ) → k < n' → a < n' → b < n' → name-after k ≡ mid (name-after a) (name-after b) → Middle (place' k) (place' a) (place' b)
    placed-after k a b lk la lb e = go (dec_lt k n)
      where
        -- an end of an old midpoint is old
        old-end : (x y : ℕ) → k < n → x < n' → name-after k ≡ mid (name-after x) (name-after y) → Dec (x < n) → x < n
        old-end x y h lx f (yes m) = m
        old-end x y h lx f (no m) =
            let P = ends-present G.forest.covers (name-after x) (name-after y) (subst (Present B t lab) (sym (old-name k h) ∙ f) (node-present k h)) in
            absurd (E-absent _ _ (H.ends x (omega arith) lx).0 (subst (Present B t lab) (added-name x (omega arith)) P))

        new-at : (x y : ℕ) → x < n → y < n → E x y → num x y ≡ k → Same (name x) (name y) (name-after a) (name-after b) → Middle (place' k) (place' a) (place' b)
        new-at x y lx ly h f (straight u v) =
            let ea = differ-after x a (omega (arith, H.grows)) la (old-name x lx ∙ u) in
            let eb = differ-after y b (omega (arith, H.grows)) lb (old-name y ly ∙ v) in
            rw (← ea, ← eb, ← f, kept-place x lx, kept-place y ly) (put x y h)
        new-at x y lx ly h f (crossed u v) =
            let ea = differ-after y a (omega (arith, H.grows)) la (old-name y ly ∙ v) in
            let eb = differ-after x b (omega (arith, H.grows)) lb (old-name x lx ∙ u) in
            rw (← ea, ← eb, ← f, kept-place x lx, kept-place y ly) (middle-swap (put x y h))

        go : Dec (k < n) → Middle (place' k) (place' a) (place' b)
        go (yes h) =
            let ha = old-end a b h la e (dec_lt a n) in
            let hb = old-end b a h lb (e ∙ mid-sym (name-after a) (name-after b)) (dec_lt b n) in
            rw (kept-place k h, kept-place a ha, kept-place b hb)
            (G.placed k a b h ha hb (sym (old-name k h) ∙ e ∙ ap₂ mid (old-name a ha) (old-name b hb)))
        go (no h) =
            let (g, f) = H.ends k (omega arith) lk in
            new-at _ _ (E-below g) (E-below (K.either_way _ _ g)) g f (mid-injective _ _ _ _ (sym (added-name k (omega arith)) ∙ e))

    -- REFINING KEEPS A GROWN MESH.
    pub grown-refined : Grown B n₀ n' t' rows' place'
    grown-refined = record {
      compatible = G.compatible;
      name = name-after;
      lab = labels-after;
      forest = forest-after;
      by_names = record { names = names-after; nodes = nodes-after; differ = differ-after };
      enough = omega (arith, G.enough, H.grows);
      base-name = λ k l. old-name k (omega (arith, G.enough)) ∙ G.base-name k l;
      added-name = λ k h l. is-mid k h l (dec_lt k n);
      used = λ k l. in_row k l (dec_lt k n);
      placed = placed-after;
    }
      where
        is-mid : (k : ℕ) → n₀ ≤ k → k < n' → Dec (k < n) → Halfway (name-after k)
        is-mid k h l (yes m) = subst Halfway (sym (old-name k m)) (G.added-name k h m)
        is-mid k h l (no m) = record { one = _; two = _; halves = added-name k (omega arith) }

        in_row : (k : ℕ) → k < n' → Dec (k < n) → (j : ℕ) × (j < t') × Holds k (rows' j)
        in_row k l (yes m) = let (j, lj, h) = G.used k m in pieced-row j lj k (corner-pieced (rows j) (ask (dm j)) (ask (du j)) (ask (dv j)) k h)
        in_row k l (no m) =
            let (h, e) = H.ends k (omega arith) l in
            let (j, lj, g) = K.of-rows _ _ h in
            pieced-row j lj k (mid-pieced (rows j) (dm j) (du j) (dv j) _ _ k h (sym e) g (K.closed j lj _ _ g h))
