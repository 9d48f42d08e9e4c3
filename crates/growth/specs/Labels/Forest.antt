-- The label part of a grown mesh, as one invariant of a finite family of labels; it holds of a base. Assumes nothing.
use Rattle.std.specs.Prelude.{◌≡◌, refl, ℕ, ◌≤◌, ◌<◌, length}
use Rattle.std.proofs.Common.{sym, ap, ◌∙◌, arith}
use mathlib.Core.List.{List, [], nil≢cons}
use Rattle.std.proofs.Math.Decide.{dec_le}
use Rattle.growth.specs.Labels.Names.{Name, mid, base≢mid}
use Rattle.growth.specs.Labels.Paths.{AllL}
use Rattle.growth.specs.Labels.Corners.{Corners, base-corner, Edge}
use Rattle.growth.specs.Labels.Cover.{Label, at, corners-of, Covers, Present}
use Rattle.growth.specs.Labels.Star.{Ordered}

-- Nothing hangs: the midpoint of a row's edge is no corner of a row.
abbrev pub NoHang : List (Corners ℕ) → ℕ → (ℕ → Label) → Type 0
NoHang B t lab = (j : ℕ) → j < t → (x y : Name) → Edge (corners-of B (lab j)) x y → ¬ Present B t lab (mid x y)

-- Rows 0 .. t-1 with these labels stand as refining and coarsening leave them.
pub record Forest (B : List (Corners ℕ)) (t : ℕ) (lab : ℕ → Label) : Type 0 where
  pub covers : Covers B t lab
  pub no_hang : NoHang B t lab
  -- the rows of the base come first, and only they are left parts of their base row
  pub enough : length B ≤ t
  pub first-from : (j : ℕ) → j < length B → (lab j).from ≡ j
  pub first-left : (j : ℕ) → j < length B → AllL (lab j).path
  pub later-right : (j : ℕ) → j < t → length B ≤ j → ¬ AllL (lab j).path
  pub ordered : Ordered t lab

-- The labels of a base.
abbrev pub rooted : ℕ → Label
rooted j = at j []

-- A base is a forest.
pub forest-base : (B : List (Corners ℕ)) → Forest B (length B) rooted
forest-base B = record {
  covers = record {
    known = λ j l. l;
    meets = λ i l s. record { index = i; below = l; by = []; label = refl; begins = tt };
    once = λ i s m n. ap (λ (l : Label). l.from) m.label ∙ sym (ap (λ (l : Label). l.from) n.label);
  };
  no_hang = λ j l x y e P. let b = base-corner B P.index (mid x y) P.holds in base≢mid b.0 x y (sym b.1);
  enough = omega arith;
  first-from = λ j l. refl;
  first-left = λ j l. tt;
  later-right = λ j l k. absurd (omega arith);
  ordered = λ j k lj lk e w a b. absurd (nil≢cons a);
}

-- A forest with no halved row is the base.
pub forest-end : {B : List (Corners ℕ)} {t : ℕ} {lab : ℕ → Label} → Forest B t lab → ((j : ℕ) → j < t → (lab j).path ≡ []) → (t ≡ length B) × ((j : ℕ) → j < t → lab j ≡ rooted j)
forest-end {B} {t} {lab} F empty = (count (dec_le t (length B)), λ j l. whole j l)
  where
    count : Dec (t ≤ length B) → t ≡ length B
    count (yes h) = omega (arith, F.enough)
    count (no h) = absurd (F.later-right (length B) (omega arith) (omega arith) (rw (empty (length B) (omega arith)) tt))

    whole : (j : ℕ) → j < t → lab j ≡ rooted j
    whole j l = λ i. record { from = F.first-from j (omega (arith, count (dec_le t (length B)))) i; path = empty j l i }
