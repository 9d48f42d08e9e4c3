-- The corners of every triangle that bisection can make, as names; where a corner comes from and how long it stays. Assumes nothing.
use Rattle.std.specs.Prelude.{◌≡◌, refl, ◌⊎◌, ◌≢◌, List, [], ◌∷◌, length, get_or}
use Rattle.std.proofs.Common.{sym, ◌∙◌, inl, inr, arith}
use Prim.Native.Nat.{ℕ, zero, suc, ◌+◌, ◌-◌, ◌≤◌}
use Rattle.std.proofs.Math.Nat.{zero-add}
use Rattle.growth.specs.Labels.Names.{Name, base, mid, Halfway, base-not-halfway, Same, straight, crossed}
use Rattle.growth.specs.Labels.Paths.{Side, L, R, Path, Stream, On, ◌⊑◌, ⊑_refl, ⊑-step, along, along-past, On-along, on-same-length}

-- Three corners: p is the newest, q–r the refinement edge. Of numbers (a base row) or of names.
pub record Corners (A : Type 0) : Type 0 where
  pub p : A
  pub q : A
  pub r : A

-- Row i of a base.
abbrev pub row : List (Corners ℕ) → ℕ → Corners ℕ
row B i = get_or B i (record { p = 0; q = 0; r = 0 })

-- The left and the right half of a triangle.
abbrev pub half : Side → Corners Name → Corners Name
half L t = record { p = mid t.q t.r; q = t.p; r = t.q }
half R t = record { p = mid t.q t.r; q = t.r; r = t.p }

-- T(i, w): the corners of the triangle that the path w leads to from base row i.
abbrev pub corners : List (Corners ℕ) → ℕ → Path → Corners Name
corners B i [] = record { p = base (row B i).p; q = base (row B i).q; r = base (row B i).r }
corners B i (x ∷ w) = half x (corners B i w)

-- z is a corner of t.
pub data Holds {A : Type 0} (z : A) (t : Corners A) : Type 0 where
  is-p : z ≡ t.p → Holds z t
  is-q : z ≡ t.q → Holds z t
  is-r : z ≡ t.r → Holds z t

-- The edge {x, y} is an edge of t, either way round.
pub data Edge {A : Type 0} (t : Corners A) (x y : A) : Type 0 where
  edge-qr : Same x y t.q t.r → Edge t x y
  edge-pq : Same x y t.p t.q → Edge t x y
  edge-rp : Same x y t.r t.p → Edge t x y

-- The three corners differ.
pub record Distinct {A : Type 0} (t : Corners A) : Type 0 where
  pub p≢q : t.p ≢ t.q
  pub q≢r : t.q ≢ t.r
  pub r≢p : t.r ≢ t.p

-- t has the directed edge x → y.
pub data Arrow {A : Type 0} (t : Corners A) (x y : A) : Type 0 where
  arrow-qr : x ≡ t.q → y ≡ t.r → Arrow t x y
  arrow-pq : x ≡ t.p → y ≡ t.q → Arrow t x y
  arrow-rp : x ≡ t.r → y ≡ t.p → Arrow t x y

-- An end of an edge is a corner.
pub edge-holds : {A : Type 0} {t : Corners A} {x y : A} → Edge t x y → Holds x t
edge-holds (edge-qr (straight e f)) = is-q e
edge-holds (edge-qr (crossed e f)) = is-r e
edge-holds (edge-pq (straight e f)) = is-p e
edge-holds (edge-pq (crossed e f)) = is-q e
edge-holds (edge-rp (straight e f)) = is-r e
edge-holds (edge-rp (crossed e f)) = is-p e

-- Both halves have the midpoint of the refinement edge for their newest corner.
pub half-newest : (x : Side) (t : Corners Name) → (half x t).p ≡ mid t.q t.r
half-newest L t = refl
half-newest R t = refl

-- A corner of a half is the midpoint of the refinement edge, or was a corner before.
pub half-holds : (x : Side) (t : Corners Name) (z : Name) → Holds z (half x t) → (z ≡ mid t.q t.r) ⊎ Holds z t
half-holds L t z (is-p e) = inl e
half-holds L t z (is-q e) = inr (is-p e)
half-holds L t z (is-r e) = inr (is-q e)
half-holds R t z (is-p e) = inl e
half-holds R t z (is-q e) = inr (is-r e)
half-holds R t z (is-r e) = inr (is-p e)

-- A corner stays a corner of at least one half.
pub half_keeps : (z : Name) (t : Corners Name) → Holds z t → (x : Side) × Holds z (half x t)
half_keeps z t (is-p e) = (L, is-q e)
half_keeps z t (is-q e) = (L, is-r e)
half_keeps z t (is-r e) = (R, is-q e)

-- z came in as the newest corner on the path w: at the step `side` after the path `upto`.
pub record Born (B : List (Corners ℕ)) (i : ℕ) (w : Path) (z : Name) : Type 0 where
  pub side : Side
  pub upto : Path
  pub part : side ∷ upto ⊑ w
  pub newest : z ≡ (corners B i (side ∷ upto)).p
  pub is-mid : z ≡ mid (corners B i upto).q (corners B i upto).r

module _ (B : List (Corners ℕ)) (i : ℕ) (z : Name) where
  -- A corner of T(i, w) is a corner of the base row, or was born on the way.
  pub corner-origin : (w : Path) → Holds z (corners B i w) → Holds z (corners B i []) ⊎ Born B i w z
  corner-origin [] h = inl h
  corner-origin (x ∷ w) h = go (half-holds x (corners B i w) z h) (corner-origin w)
    where
      later : Holds z (corners B i []) ⊎ Born B i w z → Holds z (corners B i []) ⊎ Born B i (x ∷ w) z
      later (inl b) = inl b
      later (inr b) = inr (record { side = b.side; upto = b.upto; part = ⊑-step x b.part; newest = b.newest; is-mid = b.is-mid })

      go : (z ≡ mid (corners B i w).q (corners B i w).r) ⊎ Holds z (corners B i w)
          → (Holds z (corners B i w) → Holds z (corners B i []) ⊎ Born B i w z) → Holds z (corners B i []) ⊎ Born B i (x ∷ w) z
      go (inl e) ih = inr (record { side = x; upto = w; part = ⊑_refl (x ∷ w); newest = e ∙ sym (half-newest x (corners B i w)); is-mid = e })
      go (inr k) ih = later (ih k)

  -- A corner of a base row has a base name.
  pub base-corner : Holds z (corners B i []) → (k : ℕ) × (z ≡ base k)
  base-corner (is-p e) = (_, e)
  base-corner (is-q e) = (_, e)
  base-corner (is-r e) = (_, e)

  -- A midpoint that is a corner of T(i, w) was born on the way.
  pub mid-is-born : Halfway z → (w : Path) → Holds z (corners B i w) → Born B i w z
  mid-is-born H w h = go (corner-origin w h)
    where
      go : Holds z (corners B i []) ⊎ Born B i w z → Born B i w z
      go (inl b) = absurd (base-not-halfway _ (base-corner b).1 H)
      go (inr b) = b

  module _ (w : Path) (h : Holds z (corners B i w)) where
    -- Below w, n steps further, always into a half that keeps z.
    keeping : ℕ → (u : Path) × Holds z (corners B i u)
    keeping zero = (w, h)
    keeping (suc n) =
        let step = half_keeps z (corners B i (keeping n).0) (keeping n).1 in
        (step.0 ∷ (keeping n).0, step.1)

    -- The steps of that walk.
    steps : Stream
    steps n = (half_keeps z (corners B i (keeping n).0) (keeping n).1).0

    -- After n steps the path is n longer.
    keeping-length : (n : ℕ) → length (keeping n).0 ≡ n + length w
    unfolding keeping
    keeping-length zero = simp zero-add
    keeping-length (suc n) = rw (keeping-length n) (omega arith)

    -- The walk is on the stream of its steps.
    keeping-on : (n : ℕ) → On (keeping n).0 (along w steps)
    unfolding keeping steps
    keeping-on zero = On-along w steps
    keeping-on (suc n) = (rw (keeping-length n) (along-past w steps n), keeping-on n)

-- A stream through w on which every longer path leads to a triangle that holds z.
pub record Carried (B : List (Corners ℕ)) (i : ℕ) (w : Path) (z : Name) : Type 0 where
  pub stream : Stream
  pub begins : On w stream
  pub holds : (u : Path) → On u stream → length w ≤ length u → Holds z (corners B i u)

-- From any triangle that holds z a stream goes on that keeps z for ever.
pub carried-stream : (B : List (Corners ℕ)) (i : ℕ) (w : Path) (z : Name) → Holds z (corners B i w) → Carried B i w z
carried-stream B i w z h = record { stream = s; begins = On-along w (steps B i z w h); holds = carried }
  where
    s : Stream
    s = along w (steps B i z w h)

    carried : (u : Path) → On u s → length w ≤ length u → Holds z (corners B i u)
    carried u o l =
        let k = keeping B i z w h (length u - length w) in
        let e : k.0 ≡ u = on-same-length k.0 u s (keeping-on B i z w h (length u - length w)) o (rw keeping-length (omega arith)) in
        rw e at k.1
