-- W7: what the sweep relies on of the tables and of scratch. Assumes nothing.
use Rattle.std.specs.Prelude.{List, ◌≡◌, ℕ, ◌+◌, ◌*◌, ◌≤◌, ◌<◌, ℤ, length}
use Rattle.std.proofs.Common.{arith}
use Rattle.meaning.specs.Tables.{place_at, row_at}
use Rattle.pairs.specs.Sound.{Sound}
use Rattle.columns.specs.declared.Scale.{Scale}
use Rattle.columns.specs.Columns.{column, box_at, Ordered}
use Rattle.columns.specs.Rank.{column-below}
use Rattle.sweep.specs.Sweep.{reach}
use Rattle.sweep.specs.Swept.{reach-most}

-- row i is in its table, and is sound
pub record Known (nodes : List ℤ) (rows : List ℕ) (i : ℕ) : Type 0 where
  pub inside : 3 * i + 3 ≤ length rows
  pub sound : Sound nodes (row_at rows i)

-- so is the row at place q, with the places from o on
pub record KnownAt (nodes : List ℤ) (rows scratch : List ℕ) (o q : ℕ) : Type 0 where
  pub inside : o + 3 * q + 3 ≤ length scratch
  pub known : Known nodes rows (box_at scratch o q).row

-- rows that stand in order in scratch, with all that is read of them
pub record Lined (s : Scale) (nodes : List ℤ) (rows scratch : List ℕ) (t : ℕ) : Type 0 where
  pub ordered : Ordered s (place_at nodes) rows scratch t
  pub wide : 0 < s.width
  pub some : 0 < s.count
  pub places : s.count + 3 * t ≤ length scratch
  pub room : 3 * t ≤ length rows
  pub sound : (i : ℕ) → i < t → Sound nodes (row_at rows i)

-- p is the place of one of them
pub record LinedAt (s : Scale) (nodes : List ℤ) (rows scratch : List ℕ) (p : ℕ) : Type 0 where
  pub t : ℕ
  pub lined : Lined s nodes rows scratch t
  pub below : p < t

module _ (s : Scale) (nodes : List ℤ) (rows scratch : List ℕ) where
  pub lined-known : (t q : ℕ) → Lined s nodes rows scratch t → q < t → KnownAt nodes rows scratch s.count q
  lined-known t q h l =
      let n = h.ordered.naming q l in
      record { inside = omega (arith, h.places); known = record { inside = omega (arith, h.room); sound = h.sound (box_at scratch s.count q).row n } }

  module _ (p : ℕ) (h : LinedAt s nodes rows scratch p) where
    -- the places behind it, up to where a column ends
    pub lined-behind : (i last : ℕ) → last ≡ reach s (place_at nodes) rows scratch i → (q : ℕ) → q < last → KnownAt nodes rows scratch s.count q
    lined-behind i last f q l =
        let o = h.lined.ordered in
        let r = reach-most s (place_at nodes) rows scratch h.t o h.lined.some i in
        lined-known h.t q h.lined (omega arith)

pub column-inside : (s : Scale) (v c l : ℕ) → c ≡ column s v → 0 < s.count → s.count ≤ l → c < l
column-inside s v c l e h k = let b = column-below s v h in omega arith
