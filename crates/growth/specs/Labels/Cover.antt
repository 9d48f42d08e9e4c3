-- Finite families of labelled rows that meet every stream once, and what that says of their corners. Assumes nothing.
use Rattle.std.specs.Prelude.{◌≡◌, refl, List, ◌∷◌, ℕ, suc, ◌≤◌, ◌<◌, length}
use Rattle.std.proofs.Common.{sym, ap, ◌∙◌, arith}
use Rattle.std.proofs.Math.Decide.{dec_le}
use Rattle.growth.specs.Labels.Names.{Name, mid, mid-injective, Same, straight, crossed}
use Rattle.growth.specs.Labels.Paths.{Side, L, Path, Stream, On, ◌⊑◌, ⊑_refl, ⊑-step, ⊑_trans, ⊑-length, On-⊑, On-shorter, along, On-along}
use Rattle.growth.specs.Labels.Corners.{Corners, half_keeps, mid-is-born, corners, Holds, is-q, is-r, Carried, carried-stream}

-- A label: a base row and a path down from it.
pub record Label : Type 0 where
  pub from : ℕ
  pub path : Path

-- A label, written out.
abbrev pub at : ℕ → Path → Label
at i w = record { from = i; path = w }

-- The corners of a label.
abbrev pub corners-of : List (Corners ℕ) → Label → Corners Name
corners-of B l = corners B l.from l.path

-- The generation of a label: how often its base row was halved.
abbrev pub gen : Label → ℕ
gen l = length l.path

-- Rows 0 .. t-1 are labelled by `lab`: one of them is on the stream s below base row i.
pub record Meets (t : ℕ) (lab : ℕ → Label) (i : ℕ) (s : Stream) : Type 0 where
  pub index : ℕ
  pub below : index < t
  pub by : Path
  pub label : lab index ≡ at i by
  pub begins : On by s

-- A row whose path goes on from u and that holds z.
pub record Keeps (B : List (Corners ℕ)) (t : ℕ) (lab : ℕ → Label) (i : ℕ) (u : Path) (z : Name) : Type 0 where
  pub index : ℕ
  pub below : index < t
  pub by : Path
  pub label : lab index ≡ at i by
  pub part : u ⊑ by
  pub holds : Holds z (corners B i by)

-- The triangle T(i, u) has been halved: a row's path goes on from it.
pub record Halved (t : ℕ) (lab : ℕ → Label) (i : ℕ) (u : Path) : Type 0 where
  pub index : ℕ
  pub below : index < t
  pub by : Path
  pub label : lab index ≡ at i by
  pub side : Side
  pub part : side ∷ u ⊑ by

-- z is a corner of a row.
pub record Present (B : List (Corners ℕ)) (t : ℕ) (lab : ℕ → Label) (z : Name) : Type 0 where
  pub index : ℕ
  pub below : index < t
  pub holds : Holds z (corners-of B (lab index))

-- Every stream below every base row meets exactly one row.
pub record Covers (B : List (Corners ℕ)) (t : ℕ) (lab : ℕ → Label) : Type 0 where
  pub known : (j : ℕ) → j < t → (lab j).from < length B
  pub meets : (i : ℕ) → i < length B → (s : Stream) → Meets t lab i s
  pub once : (i : ℕ) (s : Stream) (m n : Meets t lab i s) → m.index ≡ n.index

-- An end of the refinement edge is a corner.
same-holds : (x y : Name) (t : Corners Name) → Same x y t.q t.r → Holds x t
same-holds x y t (straight e f) = is-q e
same-holds x y t (crossed e f) = is-r e

module _ {B : List (Corners ℕ)} {t : ℕ} {lab : ℕ → Label} (cov : Covers B t lab) where
  -- Two rows have two labels.
  pub same-label : (j k : ℕ) → j < t → k < t → lab j ≡ lab k → j ≡ k
  same-label j k lj lk e =
      let l = lab k in
      cov.once l.from (along l.path (λ _. L))
      (record { index = j; below = lj; by = l.path; label = e; begins = On-along l.path (λ _. L) })
      (record { index = k; below = lk; by = l.path; label = refl; begins = On-along l.path (λ _. L) })

  -- No row's path is an earlier part of another's below one base row.
  pub no-shorter-row : (i : ℕ) (u w : Path) (j k : ℕ) → j < t → k < t → lab j ≡ at i u → lab k ≡ at i w → u ⊑ w → u ≡ w
  no-shorter-row i u w j k lj lk ej ek h =
      let s : Stream = along w (λ _. L) in
      let e = cov.once i s
      (record { index = j; below = lj; by = u; label = ej; begins = On-⊑ s h (On-along w (λ _. L)) })
      (record { index = k; below = lk; by = w; label = ek; begins = On-along w (λ _. L) }) in
      ap (λ (l : Label). l.path) (sym ej ∙ ap lab e ∙ ek)

  -- If T(i, u) has been halved, no row's path is a part of u.
  halved-no-row : (i : ℕ) (u : Path) → Halved t lab i u → (v : Path) (k : ℕ) → k < t → lab k ≡ at i v → v ⊑ u → ⊥
  halved-no-row i u H v k l e h =
      let part = ⊑_trans h (⊑_trans (⊑-step H.side (⊑_refl u)) H.part) in
      let same = ap length (no-shorter-row i v H.by k H.index l H.below e H.label part) in
      omega (arith, ⊑-length H.part, ⊑-length h)

  -- A corner of a half of a triangle that has been halved is kept by a row of that half.
  pub kept_row : (i : ℕ) → i < length B → (u : Path) → Halved t lab i u → (y : Side) (z : Name) → Holds z (corners B i (y ∷ u)) → Keeps B t lab i (y ∷ u) z
  kept_row i l u H y z h = go (dec_le (suc (length u)) (length M.by))
    where
      K : Carried B i (y ∷ u) z
      K = carried-stream B i (y ∷ u) z h

      M : Meets t lab i K.stream
      M = cov.meets i l K.stream

      go : Dec (suc (length u) ≤ length M.by) → Keeps B t lab i (y ∷ u) z
      go (yes long) = record {
        index = M.index;
        below = M.below;
        by = M.by;
        label = M.label;
        part = On-shorter (y ∷ u) M.by K.stream K.begins M.begins long;
        holds = K.holds M.by M.begins long;
      }
      go (no short) = absurd (halved-no-row i u H M.by M.index M.below M.label
          (On-shorter M.by u K.stream M.begins K.begins.1 (omega arith)))

  -- The two ends of a midpoint that is a corner of a row are kept by rows below the triangle that it halves.
  pub end_kept : (x y : Name) → Present B t lab (mid x y) → (i : ℕ) × (u : Path) × (a : Side) × (i < length B) × Holds x (corners B i u) × Keeps B t lab i (a ∷ u) x
  end_kept x y P =
      let l = lab P.index in
      let known = cov.known P.index P.below in
      let b = mid-is-born B l.from (mid x y) (record { one = x; two = y; halves = refl }) l.path P.holds in
      let H : Halved t lab l.from b.upto = record { index = P.index; below = P.below; by = l.path; label = refl; side = b.side; part = b.part } in
      let end = same-holds x y (corners B l.from b.upto) (mid-injective _ _ _ _ b.is-mid) in
      let k = half_keeps x (corners B l.from b.upto) end in
      (l.from, b.upto, k.0, known, end, kept_row l.from known b.upto H k.0 x k.1)

  -- PARENTS: with a midpoint its two ends are corners of rows.
  pub ends-present : (x y : Name) → Present B t lab (mid x y) → Present B t lab x
  ends-present x y P =
      let (i, u, a, l, h, K) = end_kept x y P in
      record { index = K.index; below = K.below; holds = rw K.label K.holds }
