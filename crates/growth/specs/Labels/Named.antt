-- Rows of node numbers whose nodes have the names that the rows' labels say. Assumes nothing.
use Rattle.std.specs.Prelude.{◌≡◌, refl, List, ℕ, ◌<◌}
use Rattle.std.proofs.Common.{sym, ap, ◌∙◌}
use Rattle.growth.specs.Labels.Names.{Name, Same, straight, crossed, same_map}
use Rattle.growth.specs.Labels.Corners.{Corners, Holds, is-p, is-q, is-r, Edge, edge-qr, edge-pq, edge-rp, Arrow, arrow-qr, arrow-pq, arrow-rp}
use Rattle.growth.specs.Labels.Cover.{Label, corners-of}
use Rattle.growth.specs.Labels.Newest.{NewestEverywhere}
use Rattle.growth.specs.Labels.Star.{ArrowsOnce}

-- A row of numbers, by the names of its nodes.
abbrev pub named : (ℕ → Name) → Corners ℕ → Corners Name
named name r = record { p = name r.p; q = name r.q; r = name r.r }

-- A row, written out.
abbrev pub row_of : ℕ → ℕ → ℕ → Corners ℕ
row_of a b c = record { p = a; q = b; r = c }

-- z is the newest corner of every row that holds it.
abbrev pub NewestOf : ℕ → (ℕ → Corners ℕ) → ℕ → Type 0
NewestOf t rows z = (j : ℕ) → j < t → Holds z (rows j) → z ≡ (rows j).p

-- Every directed edge is in one row.
abbrev pub RowsOnce : ℕ → (ℕ → Corners ℕ) → Type 0
RowsOnce t rows = (j k : ℕ) → j < t → k < t → (a b : ℕ) → Arrow (rows j) a b → Arrow (rows k) a b → j ≡ k

-- Rows of node numbers below n whose nodes have the names that the labels say, no name twice.
pub record Named (B : List (Corners ℕ)) (t : ℕ) (lab : ℕ → Label) (n : ℕ) (name : ℕ → Name) (rows : ℕ → Corners ℕ) : Type 0 where
  pub names : (j : ℕ) → j < t → named name (rows j) ≡ corners-of B (lab j)
  pub nodes : (j : ℕ) → j < t → (x : ℕ) → Holds x (rows j) → x < n
  pub differ : (x y : ℕ) → x < n → y < n → name x ≡ name y → x ≡ y

-- A node of a row, and an edge of it, by names.
pub holds_named : (name : ℕ → Name) {x : ℕ} {r : Corners ℕ} → Holds x r → Holds (name x) (named name r)
holds_named name (is-p e) = is-p (ap name e)
holds_named name (is-q e) = is-q (ap name e)
holds_named name (is-r e) = is-r (ap name e)

edge-named : (name : ℕ → Name) {a b : ℕ} {r : Corners ℕ} → Edge r a b → Edge (named name r) (name a) (name b)
edge-named name (edge-qr s) = edge-qr (same_map name s)
edge-named name (edge-pq s) = edge-pq (same_map name s)
edge-named name (edge-rp s) = edge-rp (same_map name s)

module _ {B : List (Corners ℕ)} {t : ℕ} {lab : ℕ → Label} {n : ℕ} {name : ℕ → Name} {rows : ℕ → Corners ℕ} (N : Named B t lab n name rows) where
  -- The nodes of row j, and the name of its newest corner.
  pub p-below : (j : ℕ) → j < t → (rows j).p < n
  p-below j l = N.nodes j l _ (is-p refl)

  pub q-below : (j : ℕ) → j < t → (rows j).q < n
  q-below j l = N.nodes j l _ (is-q refl)

  pub r-below : (j : ℕ) → j < t → (rows j).r < n
  r-below j l = N.nodes j l _ (is-r refl)

  pub name-p : (j : ℕ) → j < t → name (rows j).p ≡ (corners-of B (lab j)).p
  name-p j l = ap (λ (r : Corners Name). r.p) (N.names j l)

  -- A node is in a row exactly if its name is a corner by label.
  pub holds-name : (j : ℕ) → j < t → {x : ℕ} → Holds x (rows j) → Holds (name x) (corners-of B (lab j))
  holds-name j l h = rw (N.names j l) at (holds_named name h)

  pub holds-number : (z : ℕ) → z < n → (j : ℕ) → j < t → Holds (name z) (corners-of B (lab j)) → Holds z (rows j)
  holds-number z l j lj h = go (rw (← N.names j lj) at h)
    where
      go : Holds (name z) (named name (rows j)) → Holds z (rows j)
      go (is-p e) = is-p (N.differ _ _ l (p-below j lj) e)
      go (is-q e) = is-q (N.differ _ _ l (q-below j lj) e)
      go (is-r e) = is-r (N.differ _ _ l (r-below j lj) e)

  -- The same for pairs and edges.
  pub same_number : {a b c d : ℕ} → a < n → b < n → c < n → d < n → Same (name a) (name b) (name c) (name d) → Same a b c d
  same_number la lb lc ld (straight e f) = straight (N.differ _ _ la lc e) (N.differ _ _ lb ld f)
  same_number la lb lc ld (crossed e f) = crossed (N.differ _ _ la ld e) (N.differ _ _ lb lc f)

  pub edge-name : (j : ℕ) → j < t → {a b : ℕ} → Edge (rows j) a b → Edge (corners-of B (lab j)) (name a) (name b)
  edge-name j l h = rw (N.names j l) at (edge-named name h)

  pub edge-number : (j : ℕ) → j < t → (a b : ℕ) → a < n → b < n → Edge (corners-of B (lab j)) (name a) (name b) → Edge (rows j) a b
  edge-number j l a b la lb h = go (rw (← N.names j l) at h)
    where
      go : Edge (named name (rows j)) (name a) (name b) → Edge (rows j) a b
      go (edge-qr s) = edge-qr (same_number la lb (q-below j l) (r-below j l) s)
      go (edge-pq s) = edge-pq (same_number la lb (p-below j l) (q-below j l) s)
      go (edge-rp s) = edge-rp (same_number la lb (r-below j l) (p-below j l) s)

  -- A node that is newest in every row that holds it is so by name.
  pub newest-named : (z : ℕ) → z < n → NewestOf t rows z → NewestEverywhere B t lab (name z)
  newest-named z l h j lj k = ap name (h j lj (holds-number z l j lj k)) ∙ name-p j lj

  arrow-number : (j : ℕ) → j < t → (x y : Name) → Arrow (corners-of B (lab j)) x y
      → (a : ℕ) × (b : ℕ) × Arrow (rows j) a b × (a < n) × (b < n) × (x ≡ name a) × (y ≡ name b)
  arrow-number j l x y h = go (rw (← N.names j l) at h)
    where
      go : Arrow (named name (rows j)) x y → (a : ℕ) × (b : ℕ) × Arrow (rows j) a b × (a < n) × (b < n) × (x ≡ name a) × (y ≡ name b)
      go (arrow-qr e f) = (_, _, arrow-qr refl refl, q-below j l, r-below j l, e, f)
      go (arrow-pq e f) = (_, _, arrow-pq refl refl, p-below j l, q-below j l, e, f)
      go (arrow-rp e f) = (_, _, arrow-rp refl refl, r-below j l, p-below j l, e, f)

  -- If no directed edge of numbers is in two rows, none of names is.
  pub arrows-named : RowsOnce t rows → ArrowsOnce B t lab
  arrows-named once j k lj lk x y u v =
      let (a, b, A, la, lb, ea, eb) = arrow-number j lj x y u in
      let (c, d, D, lc, ld, ec, ed) = arrow-number k lk x y v in
      let e = N.differ c a lc la (sym ec ∙ ea) in
      let f = N.differ d b ld lb (sym ed ∙ eb) in
      once j k lj lk a b A (rw (e, f) at D)
