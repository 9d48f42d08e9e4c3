-- A grown mesh, as rows and places by number with ghost names and labels: the base is one, and one with no added node is the base.
-- Assumes nothing.
use Rattle.std.specs.Prelude.{◌≡◌, refl, List, [], ◌∷◌, ℕ, ◌≤◌, ◌<◌, length}
use Rattle.std.proofs.Common.{sym, ap, ◌∙◌, arith}
use Rattle.meaning.specs.declared.Place.{Place}
use Rattle.meaning.specs.Good.{Middle}
use Rattle.growth.specs.Labels.Names.{Name, base, base-injective, base≢mid, mid, Halfway, base-not-halfway}
use Rattle.growth.specs.Labels.Paths.{Path}
use Rattle.growth.specs.Labels.Corners.{Corners, row, corners, half-newest, Holds}
use Rattle.growth.specs.Labels.Levels.{Compatible}
use Rattle.growth.specs.Labels.Cover.{Label, corners-of}
use Rattle.growth.specs.Labels.Forest.{Forest, rooted, forest-base, forest-end}
use Rattle.growth.specs.Labels.Named.{Named, named, p-below, q-below, r-below, name-p}

-- The rows 0 .. t-1 and the places of nodes 0 .. n-1 of a mesh grown from the base rows B, whose nodes are 0 .. n₀-1.
pub record Grown (B : List (Corners ℕ)) (n₀ n t : ℕ) (rows : ℕ → Corners ℕ) (place : ℕ → Place) : Type 0 where
  pub compatible : Compatible B
  -- the ghosts: a name for each node, a label for each row
  pub name : ℕ → Name
  pub lab : ℕ → Label
  pub forest : Forest B t lab
  pub by_names : Named B t lab n name rows
  pub enough : n₀ ≤ n
  pub base-name : (k : ℕ) → k < n₀ → name k ≡ base k
  pub added-name : (k : ℕ) → n₀ ≤ k → k < n → Halfway (name k)
  pub used : (k : ℕ) → k < n → (j : ℕ) × (j < t) × Holds k (rows j)
  -- a node that is named a midpoint stands at the midpoint
  pub placed : (k a b : ℕ) → k < n → a < n → b < n → name k ≡ mid (name a) (name b) → Middle (place k) (place a) (place b)

-- THE BASE.
pub grown-base : (B : List (Corners ℕ)) → Compatible B → (n₀ : ℕ) (place : ℕ → Place)
    → ((j : ℕ) → j < length B → (x : ℕ) → Holds x (row B j) → x < n₀)
    → ((k : ℕ) → k < n₀ → (j : ℕ) × (j < length B) × Holds k (row B j)) → Grown B n₀ n₀ (length B) (row B) place
grown-base B C n₀ place below used = record {
  compatible = C;
  name = base;
  lab = rooted;
  forest = forest-base B;
  by_names = record { names = λ j l. refl; nodes = below; differ = λ x y lx ly e. base-injective e };
  enough = omega arith;
  base-name = λ k l. refl;
  added-name = λ k h l. absurd (omega arith);
  used = used;
  placed = λ k a b lk la lb e. absurd (base≢mid k (base a) (base b) e);
}

-- The newest corner of a halved triangle is a midpoint.
pub newest-halfway : (B : List (Corners ℕ)) (i : ℕ) (w : Path) → 1 ≤ length w → Halfway (corners B i w).p
newest-halfway B i [] h = absurd (omega arith)
newest-halfway B i (s ∷ w) h = record { one = _; two = _; halves = half-newest s (corners B i w) }

-- THE END: with no node added, the rows are the base's.
pub grown-end : {B : List (Corners ℕ)} {n₀ t : ℕ} {rows : ℕ → Corners ℕ} {place : ℕ → Place} → Grown B n₀ n₀ t rows place
    → (t ≡ length B) × ((j : ℕ) → j < t → rows j ≡ row B j)
grown-end {B} {n₀} {t} {rows} G = (whole.0, same)
  where
    N : Named B t G.lab n₀ G.name rows
    N = G.by_names

    empty : (j : ℕ) → j < t → (G.lab j).path ≡ []
    empty j l = go (G.lab j).path refl
      where
        go : (w : Path) → (G.lab j).path ≡ w → (G.lab j).path ≡ []
        go [] e = e
        go (s ∷ w) e =
            absurd (base-not-halfway (rows j).p (sym (name-p N j l) ∙ G.base-name (rows j).p (p-below N j l))
            (newest-halfway B (G.lab j).from (G.lab j).path (rw e (omega arith))))

    whole : (t ≡ length B) × ((j : ℕ) → j < t → G.lab j ≡ rooted j)
    whole = forest-end G.forest empty

    same : (j : ℕ) → j < t → rows j ≡ row B j
    same j l =
        let e : named G.name (rows j) ≡ corners B j [] = N.names j l ∙ ap (corners-of B) (whole.1 j l) in
        let ep : base (rows j).p ≡ base (row B j).p = sym (G.base-name _ (p-below N j l)) ∙ ap (λ (r : Corners Name). r.p) e in
        let eq : base (rows j).q ≡ base (row B j).q = sym (G.base-name _ (q-below N j l)) ∙ ap (λ (r : Corners Name). r.q) e in
        let er : base (rows j).r ≡ base (row B j).r = sym (G.base-name _ (r-below N j l)) ∙ ap (λ (r : Corners Name). r.r) e in
        λ i. record { p = base-injective ep i; q = base-injective eq i; r = base-injective er i }
