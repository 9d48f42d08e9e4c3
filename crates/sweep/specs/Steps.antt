-- Laws of single steps, which the check finds alone today: rows that stand in order, two boxed rows, and the turns of the sweep's loops. Assumes nothing.
use Rattle.std.specs.Prelude.{Bool, ◌&&◌, List, ◌≡◌, ℕ, ◌+◌, ◌*◌, ◌≤◌, ◌<◌, max, ℤ, length, get_or}
use Rattle.std.proofs.Math.Bool.{true, false}
use Rattle.std.proofs.Math.Path.{refl, ap}
use Rattle.std.proofs.Common.{◌∙◌}
use borrow.Author.Tests.{le-leb, lt-leb}
use Rattle.std.proofs.Math.Dec.{leb}
use Rattle.lists.specs.Lists.{cases}
use Rattle.lists.specs.Search.{iter}
use Rattle.meaning.specs.declared.Place.{Place}
use Rattle.meaning.specs.Tables.{place_at, row_at}
use Rattle.pairs.specs.Pair.{grave_at}
use Rattle.columns.specs.Axis.{is_y}
use Rattle.columns.specs.declared.Scale.{Scale}
use Rattle.columns.specs.declared.Boxed.{Boxed}
use Rattle.columns.specs.Columns.{high, column, box_at}
use Rattle.sweep.specs.Highest.{raised, highest}
use Rattle.sweep.specs.Sweep.{compared, visited, reach, swept_place, swept}
use Rattle.sweep.specs.Lined.{Known, KnownAt, Lined, LinedAt, lined-known}

-- ---- rows that stand in order

pub known-box : (nodes : List ℤ) (rows scratch : List ℕ) (o q : ℕ) (c : Boxed) → c ≡ box_at scratch o q → KnownAt nodes rows scratch o q → Known nodes rows c.row
known-box nodes rows scratch o q c e h = rw e h.known

pub lined-at : (s : Scale) (nodes : List ℤ) (rows scratch : List ℕ) (t p : ℕ) → Lined s nodes rows scratch t → p < t → LinedAt s nodes rows scratch p
lined-at s nodes rows scratch t p h l = record { t = t; lined = h; below = l }

module _ (s : Scale) (nodes : List ℤ) (rows scratch : List ℕ) (p : ℕ) (h : LinedAt s nodes rows scratch p) where
  pub lined-box : s.count + 3 * p + 3 ≤ length scratch
  lined-box = (lined-known s nodes rows scratch h.t p h.lined h.below).inside

  -- b is what stands there
  module _ (b : Boxed) (e : b ≡ box_at scratch s.count p) where
    pub lined-row : Known nodes rows b.row
    lined-row = known-box nodes rows scratch s.count p b e (lined-known s nodes rows scratch h.t p h.lined h.below)

    pub place-swept : (last k worst r : ℕ) → last ≡ reach s (place_at nodes) rows scratch b.row → k ≡ highest (visited (place_at nodes) rows scratch s.count b) (p + 1) last →
        r ≡ max worst k → r ≡ max worst (swept_place s (place_at nodes) rows scratch p)
    unfolding swept_place
    place-swept last k worst r f g w = w ∙ ap (max worst) (g ∙ rw (f, e))

-- ---- two boxed rows

module _ (P : ℕ → Place) (rows : List ℕ) (b c : Boxed) where
  pub compared-under : b.high < c.low → 0 ≡ compared P rows b c
  unfolding compared
  compared-under h = rw (lt-leb c.low b.high h)

  pub compared-over : c.high < b.low → 0 ≡ compared P rows b c
  unfolding compared
  compared-over h = go (leb c.low b.high)
    where
      go : (a : Bool) → 0 ≡ cases (a && leb b.low c.high) (grave_at P rows b.row c.row) 0
      go true = rw (lt-leb b.low c.high h)
      go false = refl

  pub compared-met : (r : ℕ) → c.low ≤ b.high → b.low ≤ c.high → r ≡ grave_at P rows b.row c.row → r ≡ compared P rows b c
  unfolding compared
  compared-met r h k e = rw (le-leb c.low b.high h, le-leb b.low c.high k) e

  -- c is what stands at some place
  pub place-visited : (c' : Boxed) (k worst r : ℕ) → c ≡ c' → k ≡ compared P rows b c → r ≡ max worst k → r ≡ max worst (compared P rows b c')
  place-visited c' k worst r q e w = w ∙ ap (max worst) (e ∙ ap (compared P rows b) q)

-- ---- where the loops begin, and where a column ends

pub highest-start : (f : ℕ → ℕ) (i t : ℕ) → iter (raised f) i t 0 ≡ highest f i t
unfolding highest
highest-start f i t = refl

pub swept-start : (s : Scale) (P : ℕ → Place) (rows scratch : List ℕ) (t : ℕ) → iter (raised (swept_place s P rows scratch)) 0 t 0 ≡ swept s P rows scratch t
unfolding swept highest
swept-start s P rows scratch t = refl

pub reach-made : (s : Scale) (P : ℕ → Place) (rows scratch : List ℕ) (i v c r : ℕ) → v ≡ high (is_y s.axis) P (row_at rows i) → c ≡ column s v → r ≡ get_or scratch c 0 → r ≡ reach s P rows scratch i
unfolding reach
reach-made s P rows scratch i v c r e f g = g ∙ ap (λ x. get_or scratch x 0) (f ∙ ap (column s) e)
