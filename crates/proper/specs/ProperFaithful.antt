-- A lawful, proper mesh is faithful. In one row the sides tell the weights. Of two rows that share no interior point one has a side with
-- the other beyond it; so a common point lies on that side, and in the other row on an edge along it. Assumes nothing.
use Rattle.std.specs.Prelude.{Bool, true, false, ◌⊎◌, ◌≢◌, ◌≡◌, refl, ℕ, zero, suc, ◌<◌, ℤ, pos, ◌+ℤ◌, ◌*ℤ◌, length, ◌≤ℤ◌, ◌<ℤ◌}
use mathlib.Core.List.{Memᴰ}
use Rattle.std.proofs.Common.{inl, inr, sym, ap, subst, subst₂, ◌∙◌, arith}
use Rattle.std.proofs.Math.Decide.{dec_lt}
use Rattle.std.proofs.Math.IntN.{*ℤ_comm}
use Rattle.lists.specs.ListsLaw.{clash, All-at}
use Rattle.lists.specs.MembersLaw.{mem-at}
use Rattle.whole.specs.Diff.{onℤ, sumℤ, mulℤ}
use Rattle.whole.specs.Ring.{K, ◌:+◌, ◌:*◌, ring4}
use Rattle.whole.specs.Order.{lt-or-le, lt_not_le, le_of_eq, positive-times, nonpos-times, times-le, times-cancel}
use Rattle.meaning.specs.declared.Tri.{Tri}
use Rattle.meaning.specs.Mesh.{Mesh, Arrow, tri, same_tri, arrows, at}
use Rattle.meaning.specs.Lawful.{Lawful, row_of}
use Rattle.meaning.specs.Proper.{left, area, Share, shape, Proper}
use Rattle.laws.specs.Area.{turn-from, turn-to}
use Rattle.laws.specs.Edges.{same_tri-eq, same_tri-refl}
use Rattle.proper.specs.Apart.{NoneLeft, PartedBy, by-pq, by-qr, by-rp, Apart, by_first, by-second}
use Rattle.proper.specs.Convex.{val, side, spot}
use Rattle.proper.specs.Sharing.{share_back, side-turn, weights, apart-or-share}
use Rattle.proper.specs.OnLine.{zero-of-mul, times_zero}
use Rattle.proper.specs.Sums.{Mix, mix, level, two, SamePoint, SameSum, Faithful, rotated, rotated-same, without-third, level-linear, affine-same, turn_to, turn-affine}
use Rattle.proper.specs.Corners.{above-pqr, above-qrp, above-rpq, row-edge}
use Rattle.proper.specs.EdgesMeet.{Side, edges-meet}

-- ---- sums of three, where some terms are 0

third-only : (a b c u v w : ℤ) → u ≡ pos 0 → v ≡ pos 0 → a *ℤ u +ℤ b *ℤ v +ℤ c *ℤ w ≡ c *ℤ w
third-only a b c u v w e f = rw (e, f) (ring4 (λ a b c w. (a :* K (pos 0) :+ b :* K (pos 0) :+ c :* w, c :* w)) a b c w tt)

-- ---- one row

module _ (m : Mesh) where
  rotated-point : (s u : Mix) → SamePoint m (level s) (level u) → SamePoint m (level (rotated s)) (level (rotated u))
  rotated-point s u same φ k = sym (rotated-same s φ) ∙ same φ k ∙ rotated-same u φ

  -- the side x–y tells the weight of z
  third-weight : (x y z α β γ : ℕ) → level (mix (tri x y z) α β γ) (turn_to m x y) ≡ pos γ *ℤ turn_to m x y z
  third-weight x y z α β γ = third-only (pos α) (pos β) (pos γ) (turn_to m x y x) (turn_to m x y y) (turn_to m x y z) (turn-from (at m x) (at m y)) (turn-to (at m x) (at m y))

  third-same : (x y z α β γ α' β' γ' : ℕ) → pos 0 <ℤ turn_to m x y z → SamePoint m (level (mix (tri x y z) α β γ)) (level (mix (tri x y z) α' β' γ')) → γ ≡ γ'
  third-same x y z α β γ α' β' γ' h same =
      let e = sym (third-weight x y z α β γ) ∙ affine-same (level-linear (mix (tri x y z) α β γ)) (level-linear (mix (tri x y z) α' β' γ')) (turn-affine m x y) same ∙ third-weight x y z α' β' γ' in
      let f = times-cancel (turn_to m x y z) (pos γ) (pos γ') h (*ℤ_comm (turn_to m x y z) (pos γ) ∙ e ∙ *ℤ_comm (pos γ') (turn_to m x y z)) in
      omega (arith, onℤ)

  same-weights : Lawful m → (t : Tri) → Memᴰ t m.tris → (a b c a' b' c' : ℕ) → SamePoint m (level (mix t a b c)) (level (mix t a' b' c')) → (a ≡ a') × (b ≡ b') × (c ≡ c')
  same-weights law t i a b c a' b' c' same =
      let turned = rotated-point (mix t a b c) (mix t a' b' c') same in (
        third-same t.q t.r t.p b c a b' c' a' (above-qrp m law i) turned,
        third-same t.r t.p t.q c a b c' a' b' (above-rpq m law i) (rotated-point (rotated (mix t a b c)) (rotated (mix t a' b' c')) turned),
        third-same t.p t.q t.r a b c a' b' c' (above-pqr m law i) same,
      )

-- ---- two rows, the second beyond a side of the first

module _ (m : Mesh) (law : Lawful m) (proper : Proper m) where
  -- an edge of a row has no node strictly inside
  side-of : {t : Tri} → Memᴰ t m.tris → {e : Arrow} → Memᴰ e (arrows t) → Side m e.from e.to
  side-of i j =
      let r = row-edge m law i j in
      record { from-below = r.from-below; to_below = r.to_below; long = r.long; clear = λ k h. All-at (All-at (proper.none_inside k h) i) j }

  side-pq : {t : Tri} → Memᴰ t m.tris → Side m t.p t.q
  side-pq i = side-of i (Memᴰ.head refl)

  side-qr : {t : Tri} → Memᴰ t m.tris → Side m t.q t.r
  side-qr i = side-of i (Memᴰ.tail (Memᴰ.head refl))

  side-rp : {t : Tri} → Memᴰ t m.tris → Side m t.r t.p
  side-rp i = side-of i (Memᴰ.tail (Memᴰ.tail (Memᴰ.head refl)))

  -- a sum of three numbers at or below 0 that is at or above 0
  none_below : (k a b c : ℕ) (l u v w : ℤ) → pos 0 <ℤ l → u ≤ℤ pos 0 → v ≤ℤ pos 0 → w ≤ℤ pos 0 → pos k *ℤ l ≡ pos a *ℤ u +ℤ pos b *ℤ v +ℤ pos c *ℤ w
      → (k ≡ 0) × (pos a *ℤ u ≡ pos 0) × (pos b *ℤ v ≡ pos 0) × (pos c *ℤ w ≡ pos 0)
  none_below k a b c l u v w h i j n e =
      let A = nonpos-times (pos a) u (omega (arith, onℤ)) i in
      let B = nonpos-times (pos b) v (omega (arith, onℤ)) j in
      let C = nonpos-times (pos c) w (omega (arith, onℤ)) n in
      let S = sumℤ (pos a *ℤ u) (pos b *ℤ v) in
      let T = sumℤ (pos a *ℤ u +ℤ pos b *ℤ v) (pos c *ℤ w) in
      let N = times-le (pos k) (pos 1) l (omega (arith, onℤ)) (omega (arith, onℤ)) in
      let M = mulℤ (pos k) (pos 1) in
      (omega (arith, onℤ), omega (arith, onℤ), omega (arith, onℤ), omega (arith, onℤ))

  no-weight : (a : ℕ) (u : ℤ) → pos a *ℤ u ≡ pos 0 → u <ℤ pos 0 → a ≡ 0
  no-weight zero u e h = refl
  no-weight (suc a) u e h = absurd (omega (arith, onℤ, zero-of-mul (pos (suc a)) u (omega (arith, onℤ)) e))

  -- the corners of a row are not on one line
  not-flat : {t : Tri} → Memᴰ t m.tris → (x y z : ℕ) → pos 0 <ℤ turn_to m x y z → turn_to m x y t.p ≡ pos 0 → turn_to m x y t.q ≡ pos 0 → turn_to m x y t.r ≡ pos 0 → ⊥
  not-flat {t} i x y z h e f g =
      let X = at m x in
      let Y = at m y in
      let S = shape m t in
      let Z = spot (at m z) in
      lt_not_le (positive-times (area (shape m t)) (val (side X Y) (spot (at m z))) (above-pqr m law i) (rw (side-turn X Y (at m z)) h))
      (le_of_eq (weights (side X Y) (shape m t) (spot (at m z))
      ∙ none (left S.q S.r Z) (left S.r S.p Z) (left S.p S.q Z) _ _ _ (side-turn X Y (at m t.p) ∙ e) (side-turn X Y (at m t.q) ∙ f) (side-turn X Y (at m t.r) ∙ g)))
    where
      none : (a b c u v w : ℤ) → u ≡ pos 0 → v ≡ pos 0 → w ≡ pos 0 → a *ℤ u +ℤ b *ℤ v +ℤ c *ℤ w ≡ pos 0
      none a b c u v w e f g = third-only a b c u v w e f ∙ times_zero c w g

  none-left-same : (x y z : ℕ) → Side m x y → pos 0 <ℤ turn_to m x y z → (α β γ : ℕ) (u : Mix) → Memᴰ u.row m.tris → NoneLeft (at m x) (at m y) (shape m u.row)
      → SamePoint m (level (mix (tri x y z) α β γ)) (level u) → SameSum (level (mix (tri x y z) α β γ)) (level u)
  none-left-same x y z E h α β γ u i o same =
      go (lt-or-le (turn_to m x y u.row.p) (pos 0)) (lt-or-le (turn_to m x y u.row.q) (pos 0)) (lt-or-le (turn_to m x y u.row.r) (pos 0))
    where
      zeros : (γ ≡ 0) × (pos u.a *ℤ turn_to m x y u.row.p ≡ pos 0) × (pos u.b *ℤ turn_to m x y u.row.q ≡ pos 0) × (pos u.c *ℤ turn_to m x y u.row.r ≡ pos 0)
      zeros = none_below γ u.a u.b u.c (turn_to m x y z) (turn_to m x y u.row.p) (turn_to m x y u.row.q) (turn_to m x y u.row.r) h o.at_p o.at-q o.at-r
          (sym (third-weight m x y z α β γ) ∙ affine-same (level-linear (mix (tri x y z) α β γ)) (level-linear u) (turn-affine m x y) same)

      -- an edge of the other row, along x–y
      on_edge : {x' y' : ℕ} → Side m x' y' → (α' β' : ℕ) → pos α' *ℤ turn_to m x y x' ≡ pos 0 → pos β' *ℤ turn_to m x y y' ≡ pos 0 → SameSum (level u) (two x' y' α' β') →
          SameSum (level (mix (tri x y z) α β γ)) (level u)
      on_edge E' α' β' f g is φ =
          let here = without-third (tri x y z) α β γ zeros.0 in
          here φ ∙ edges-meet m proper.places-differ E E' α β α' β' f g (λ ψ k. sym (here ψ) ∙ same ψ k ∙ is ψ) φ ∙ sym (is φ)

      go : (turn_to m x y u.row.p <ℤ pos 0) ⊎ (pos 0 ≤ℤ turn_to m x y u.row.p) → (turn_to m x y u.row.q <ℤ pos 0) ⊎ (pos 0 ≤ℤ turn_to m x y u.row.q)
          → (turn_to m x y u.row.r <ℤ pos 0) ⊎ (pos 0 ≤ℤ turn_to m x y u.row.r) → SameSum (level (mix (tri x y z) α β γ)) (level u)
      go (inl p) q r =
          on_edge (side-qr i) u.b u.c zeros.2 zeros.3
          (λ φ. rotated-same u φ ∙ without-third (rotated u).row u.b u.c u.a (no-weight u.a (turn_to m x y u.row.p) zeros.1 p) φ)
      go (inr p) (inl q) r =
          on_edge (side-rp i) u.c u.a zeros.3 zeros.1
          (λ φ. rotated-same u φ ∙ rotated-same (rotated u) φ ∙ without-third (rotated (rotated u)).row u.c u.a u.b (no-weight u.b (turn_to m x y u.row.q) zeros.2 q) φ)
      go (inr p) (inr q) (inl r) =
          on_edge (side-pq i) u.a u.b zeros.1 zeros.2 (without-third u.row u.a u.b u.c (no-weight u.c (turn_to m x y u.row.r) zeros.3 r))
      go (inr p) (inr q) (inr r) = absurd (not-flat i x y z h (omega (arith, onℤ, o.at_p)) (omega (arith, onℤ, o.at-q)) (omega (arith, onℤ, o.at-r)))

  parted-same : (s u : Mix) → Memᴰ s.row m.tris → Memᴰ u.row m.tris → PartedBy (shape m s.row) (shape m u.row) →
      SamePoint m (level s) (level u) → SameSum (level s) (level u)
  parted-same s u i j (by-pq o) same φ = none-left-same s.row.p s.row.q s.row.r (side-pq i) (above-pqr m law i) s.a s.b s.c u j o same φ
  parted-same s u i j (by-qr o) same φ =
      rotated-same s φ
      ∙ none-left-same s.row.q s.row.r s.row.p (side-qr i) (above-qrp m law i) s.b s.c s.a u j o
      (λ ψ k. sym (rotated-same s ψ) ∙ same ψ k) φ
  parted-same s u i j (by-rp o) same φ =
      rotated-same s φ ∙ rotated-same (rotated s) φ
      ∙ none-left-same s.row.r s.row.p s.row.q (side-rp i) (above-rpq m law i) s.c s.a s.b u j o
      (λ ψ k. sym (rotated-same (rotated s) ψ) ∙ sym (rotated-same s ψ) ∙ same ψ k) φ

  -- two rows that are not one share no interior point
  no-share : {t u : Tri} → Memᴰ t m.tris → Memᴰ u m.tris → t ≢ u → ¬ Share (shape m t) (shape m u)
  no-share {t} {u} i j n s =
      let a = mem-at (tri 0 0 0) i in
      let b = mem-at (tri 0 0 0) j in
      let s' = subst₂ (λ v w. Share (shape m v) (shape m w)) (sym a.2) (sym b.2) s in
      go a.0 b.0 a.1 b.1 s' (λ e. n (sym a.2 ∙ ap (row_of m.tris) e ∙ b.2)) (dec_lt a.0 b.0) (dec_lt b.0 a.0)
    where
      go : (i j : ℕ) → i < length m.tris → j < length m.tris → Share (shape m (row_of m.tris i)) (shape m (row_of m.tris j)) → i ≢ j → Dec (i < j) → Dec (j < i) → ⊥
      go i j hi hj s n (yes l) d = proper.none-shared i j l hj s
      go i j hi hj s n (no l) (yes d) = proper.none-shared j i d hi (share_back s)
      go i j hi hj s n (no l) (no d) = n (omega arith)

  -- A LAWFUL, PROPER MESH IS FAITHFUL
  pub proper-faithful : Faithful m
  proper-faithful = record { one-sum = λ s u i j same. go s u i j same (same_tri s.row u.row) refl }
    where
      apart-same : (s u : Mix) → Memᴰ s.row m.tris → Memᴰ u.row m.tris → SamePoint m (level s) (level u) →
          Apart (shape m s.row) (shape m u.row) → SameSum (level s) (level u)
      apart-same s u i j same (by_first o) φ = parted-same s u i j o same φ
      apart-same s u i j same (by-second o) φ = sym (parted-same u s j i o (λ ψ k. sym (same ψ k)) φ)

      go : (s u : Mix) → Memᴰ s.row m.tris → Memᴰ u.row m.tris → SamePoint m (level s) (level u) → (b : Bool) → same_tri s.row u.row ≡ b → SameSum (level s) (level u)
      go s u i j same true e φ =
          let t = same_tri-eq s.row u.row e in
          let w = same-weights m law u.row j s.a s.b s.c u.a u.b u.c (subst (λ v. SamePoint m (level (mix v s.a s.b s.c)) (level u)) t same) in
          λ k. level (mix (t k) (w.0 k) (w.1 k) (w.2 k)) φ
      go s u i j same false e φ = by (apart-or-share (shape m s.row) (shape m u.row) (above-pqr m law i) (above-pqr m law j)) φ
        where
          by : Apart (shape m s.row) (shape m u.row) ⊎ Share (shape m s.row) (shape m u.row) → SameSum (level s) (level u)
          by (inl a) = apart-same s u i j same a
          by (inr h) = absurd (no-share i j (λ t. clash (sym (same_tri-refl s.row) ∙ ap (same_tri s.row) t ∙ e)) h)
