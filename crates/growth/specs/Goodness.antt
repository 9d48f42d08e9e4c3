-- In a mesh grown from a base an added node is good exactly if it is the newest vertex of every row that holds it; and while nodes are
-- added there is one. Assumes nothing.
use Rattle.std.specs.Prelude.{Bool, true, false, ◌≢◌, ◌≡◌, refl, ℕ, zero, suc, ◌+◌, ◌≤◌, ◌<◌, length, get_or, drop}
use mathlib.Core.List.{List, [], ◌∷◌, map, Memᴰ}
use Rattle.std.proofs.Common.{inl, inr, sym, subst, ap, ap₂, ◌∙◌, zero-add, arith}
use Rattle.std.proofs.Math.Path.{subst⁻¹}
use Rattle.std.proofs.Math.Decide.{dec_le, dec_lt}
use Rattle.lists.specs.Lists.{only, All, nil, cons}
use Rattle.lists.specs.ListsLaw.{clash, All-at, All-of}
use Rattle.lists.specs.MembersLaw.{only-in, only-passes, only_keeps, mem-at, at_mem, up_to-in}
use Rattle.meaning.specs.declared.Tri.{Tri}
use Rattle.meaning.specs.Mesh.{Mesh, tri, edge, at, same_tri, holds_node, holds_edge}
use Rattle.meaning.specs.Lawful.{row_of}
use Rattle.meaning.specs.Good.{Brothers, brothers, rows_of, span, good}
use Rattle.meaning.specs.Coarsen.{good_nodes}
use Rattle.laws.specs.Area.{middle-edge}
use Rattle.laws.specs.Edges.{edge-comm, same_tri-eq, same_tri-refl}
use Rattle.laws.specs.Pairs.{Matched, none_left, pair-first, but, same_row}
use Rattle.laws.specs.Star.{Star, star-from, span-is, good-star, star-good}
use Rattle.growth.specs.Labels.Names.{mid}
use Rattle.growth.specs.Labels.Corners.{Corners, Holds, is-p}
use Rattle.growth.specs.Labels.Named.{NewestOf}
use Rattle.growth.specs.Labels.Around.{RowPair, Around, two-rows, four-rows, around, no_edge, one-node, some-newest-node}
use Rattle.growth.specs.Rows.{three, rows, node-holds, holds-node, same-of-edge, edge-held, arrow-in-one-row}
use Rattle.growth.specs.GrownFrom.{GrownFrom}

-- ---- the members that pass, by number

module _ {A : Type 0} (f : A → Bool) (d : A) (l : List A) where
  -- Of the members from n on exactly those with these numbers pass.
  data Passing : ℕ → List ℕ → Type 0 where
    none_more : (n : ℕ) → ((k : ℕ) → n ≤ k → k < length l → f (get_or l k d) ≡ false) → Passing n []
    next : (n j : ℕ) {is : List ℕ} → n ≤ j → j < length l → f (get_or l j d) ≡ true → ((k : ℕ) → n ≤ k → k < j → f (get_or l k d) ≡ false) → Passing (suc j) is → Passing n (j ∷ is)

only_none : {A : Type 0} (f : A → Bool) (d : A) (l : List A) (n : ℕ) → ((k : ℕ) → n ≤ k → k < length l → f (get_or l k d) ≡ false) → only f (drop n l) ≡ []
only_none f d [] zero off = refl
only_none f d [] (suc n) off = refl
only_none f d (x ∷ l) zero off = rw (off 0 (omega arith) (omega arith)) (only_none f d l zero (λ k h h'. off (suc k) (omega arith) (omega arith)))
only_none f d (x ∷ l) (suc n) off = only_none f d l n (λ k h h'. off (suc k) (omega arith) (omega arith))

only_next : {A : Type 0} (f : A → Bool) (d : A) (l : List A) (n j : ℕ) → n ≤ j → j < length l → f (get_or l j d) ≡ true → ((k : ℕ) → n ≤ k → k < j → f (get_or l k d) ≡ false)
    → only f (drop n l) ≡ get_or l j d ∷ only f (drop (suc j) l)
only_next f d [] n j h h' t off = absurd (omega arith)
only_next f d (x ∷ l) zero zero h h' t off = rw t
only_next f d (x ∷ l) zero (suc j) h h' t off = rw (off 0 (omega arith) (omega arith)) (only_next f d l zero j (omega arith) (omega arith) t (λ k g g'. off (suc k) (omega arith) (omega arith)))
only_next f d (x ∷ l) (suc n) zero h h' t off = absurd (omega arith)
only_next f d (x ∷ l) (suc n) (suc j) h h' t off = only_next f d l n j (omega arith) (omega arith) t (λ k g g'. off (suc k) (omega arith) (omega arith))

only-passing : {A : Type 0} (f : A → Bool) (d : A) (l : List A) (n : ℕ) {is : List ℕ} → Passing f d l n is → only f (drop n l) ≡ map (λ i. get_or l i d) is
only-passing f d l n (none_more _ off) = only_none f d l n off
only-passing f d l n (next _ j h h' t off more) = only_next f d l n j h h' t off ∙ ap (λ ys. get_or l j d ∷ ys) (only-passing f d l (suc j) more)

-- Exactly two, and exactly four members pass.
module _ {A : Type 0} (f : A → Bool) (d : A) (l : List A) where
  abbrev Passes : ℕ → Type 0
  Passes i = (i < length l) × (f (get_or l i d) ≡ true)

  two-pass : (i j : ℕ) → i < j → Passes i → Passes j → ((k : ℕ) → k < length l → k ≢ i → k ≢ j → f (get_or l k d) ≡ false) → Passing f d l 0 (i ∷ j ∷ [])
  two-pass i j o (li, ti) (lj, tj) off =
      next 0 i (omega arith) li ti (λ k _ h. off k (omega arith) (λ e. omega arith) (λ e. omega arith))
      (next (suc i) j o lj tj (λ k g h. off k (omega arith) (λ e. omega arith) (λ e. omega arith))
      (none_more (suc j) (λ k g h. off k h (λ e. omega arith) (λ e. omega arith))))

  four-pass : (i j m n : ℕ) → i < j → j < m → m < n → Passes i → Passes j → Passes m → Passes n →
      ((k : ℕ) → k < length l → k ≢ i → k ≢ j → k ≢ m → k ≢ n → f (get_or l k d) ≡ false) → Passing f d l 0 (i ∷ j ∷ m ∷ n ∷ [])
  four-pass i j m n o p q (li, ti) (lj, tj) (lm, tm) (ln, tn) off =
      next 0 i (omega arith) li ti (λ k _ h. off k (omega arith) (λ e. omega arith) (λ e. omega arith) (λ e. omega arith) (λ e. omega arith))
      (next (suc i) j o lj tj (λ k g h. off k (omega arith) (λ e. omega arith) (λ e. omega arith) (λ e. omega arith) (λ e. omega arith))
      (next (suc j) m p lm tm (λ k g h. off k (omega arith) (λ e. omega arith) (λ e. omega arith) (λ e. omega arith) (λ e. omega arith))
      (next (suc m) n q ln tn (λ k g h. off k (omega arith) (λ e. omega arith) (λ e. omega arith) (λ e. omega arith) (λ e. omega arith))
      (none_more (suc n) (λ k g h. off k h (λ e. omega arith) (λ e. omega arith) (λ e. omega arith) (λ e. omega arith))))))

-- The least number with a property that a number has.
least : (P : ℕ → Type 0) → ((j : ℕ) → Dec (P j)) → (n k : ℕ) → ((i : ℕ) → i < k → ¬ P i) → P (n + k) → (x : ℕ) × (x ≤ n + k) × P x × ((i : ℕ) → P i → x ≤ i)
least P d zero k none h = (k, omega arith, rw zero-add at h, λ i p. above i p (dec_le k i))
  where
    above : (i : ℕ) → P i → Dec (k ≤ i) → k ≤ i
    above i p (yes l) = l
    above i p (no l) = absurd (none i (omega arith) p)
least P d (suc n) k none h = go (d k) (least P d n (suc k))
  where
    above : (i : ℕ) → P i → Dec (k ≤ i) → k ≤ i
    above i p (yes l) = l
    above i p (no l) = absurd (none i (omega arith) p)

    more : ¬ P k → (i : ℕ) → i < suc k → Dec (k ≤ i) → ¬ P i
    more m i l (yes g) = let e : i ≡ k = omega arith in rw e m
    more m i l (no g) = none i (omega arith)

    go : Dec (P k) → (((i : ℕ) → i < suc k → ¬ P i) → P (n + suc k) → (x : ℕ) × (x ≤ n + suc k) × P x × ((i : ℕ) → P i → x ≤ i))
        → (x : ℕ) × (x ≤ suc n + k) × P x × ((i : ℕ) → P i → x ≤ i)
    go (yes p) below = (k, omega arith, p, λ i q. above i q (dec_le k i))
    go (no m) below =
        let e : suc n + k ≡ n + suc k = omega arith in
        let (x, l, p, low) = below (λ i l. more m i l (dec_le k i)) (rw e at h) in
        (x, omega arith, p, low)

-- ---- pairs of rows, paired off

matched-two : {t u : Tri} → u.r ≡ t.q → Matched (t ∷ u ∷ []) (brothers t u ∷ [])
matched-two {t} {u} e = pair-first {u = u} {ts = u ∷ []} {bs = []} (Memᴰ.head refl) e (rw (same_tri-refl u) none_left)

matched-four : {t u x y : Tri} {ts : List Tri} → Memᴰ u ts → u.r ≡ t.q → but u ts ≡ x ∷ y ∷ [] → y.r ≡ x.q → Matched (t ∷ ts) (brothers t u ∷ brothers x y ∷ [])
matched-four {x = x} {y = y} i e f g = pair-first i e (subst⁻¹ (λ ts. Matched ts (brothers x y ∷ [])) f (matched-two g))

module _ (base m : Mesh) (G : GrownFrom base m) where
  abbrev t : ℕ
  t = length m.tris

  abbrev row_at : ℕ → Tri
  row_at k = row_of m.tris k

  -- z is the newest vertex of every row that holds it.
  abbrev pub Newest : ℕ → Type 0
  Newest z = NewestOf (length m.tris) (rows m) z

  abbrev pub Rows : ℕ → ℕ → ℕ → ℕ → Type 0
  Rows z a b c = RowPair G.grown z a b c

  -- What G2 reads off at a node: a star on b–c, of which it is the midpoint by name.
  pub record Told (z : ℕ) : Type 0 where
    pub b : ℕ
    pub c : ℕ
    pub b-below : b < length m.nodes
    pub c-below : c < length m.nodes
    pub star : Star m z
    pub span-told : span m z ≡ edge b c
    pub halves : G.grown.name z ≡ mid (G.grown.name b) (G.grown.name c)

  -- Rows that hold z, as members and by number.
  held : (z : ℕ) (u : Tri) → Memᴰ u (rows_of m z) → (k : ℕ) × (k < t) × (row_at k ≡ u) × Holds z (rows m k)
  held z u i =
      let (k, l, e) = mem-at (tri 0 0 0) (All-at (only_keeps (holds_node z) (All-of m.tris (λ v j. j))) i) in
      (k, l, e, subst (λ (v : Tri). Holds z (three v)) (sym e) (node-holds z u (All-at (only-passes (holds_node z) m.tris) i)))

  pub star-newest : (z : ℕ) → Star m z → Newest z
  star-newest z s k l h = sym (All-at s.newest (only-in (holds_node z) (at_mem m.tris k (tri 0 0 0) l) (holds-node z (row_at k) h)))

  -- Two rows are two triangles.
  differ : (j k : ℕ) → j < t → k < t → j ≢ k → same_tri (row_at j) (row_at k) ≡ false
  differ j k lj lk n = go (same_tri (row_at j) (row_at k)) refl
    where
      go : (b : Bool) → same_tri (row_at j) (row_at k) ≡ b → b ≡ false
      go true e = absurd (n (same_row m G.lawful j k lj lk (same_tri-eq (row_at j) (row_at k) e)))
      go false e = refl

  holds? : (z k : ℕ) → Dec (Holds z (rows m k))
  holds? z k = go (holds_node z (row_at k)) refl
    where
      go : (b : Bool) → holds_node z (row_at k) ≡ b → Dec (Holds z (rows m k))
      go true e = yes (node-holds z (row_at k) e)
      go false e = no (λ h. clash (sym (holds-node z (row_at k) h) ∙ e))

  -- Which row is which, in a pair.
  module _ {z a b c : ℕ} (P : Rows z a b c) where
    left-holds : holds_node z (row_at P.left) ≡ true
    left-holds = holds-node z (row_at P.left) (is-p (sym (ap (λ (u : Corners ℕ). u.p) P.left_is)))

    right-holds : holds_node z (row_at P.right) ≡ true
    right-holds = holds-node z (row_at P.right) (is-p (sym (ap (λ (u : Corners ℕ). u.p) P.right_is)))

    joint : (row_at P.right).r ≡ (row_at P.left).q
    joint = ap (λ (u : Corners ℕ). u.r) P.right_is ∙ sym (ap (λ (u : Corners ℕ). u.q) P.left_is)

    ends : edge (row_at P.left).r (row_at P.right).q ≡ edge b c
    ends = ap₂ edge (ap (λ (u : Corners ℕ). u.r) P.left_is) (ap (λ (u : Corners ℕ). u.q) P.right_is)

  module _ (z : ℕ) (lz : z < length m.nodes) (added : length base.nodes ≤ z) (newest : Newest z) where
    all-newest : All (λ u. u.p ≡ z) (rows_of m z)
    all-newest = All-of (rows_of m z) (λ u i. let (k, l, e, h) = held z u i in sym (newest k l h ∙ ap (λ (v : Tri). v.p) e))

    off : (k : ℕ) → ¬ Holds z (rows m k) → holds_node z (row_at k) ≡ false
    off k n = go (holds_node z (row_at k)) refl
      where
        go : (b : Bool) → holds_node z (row_at k) ≡ b → b ≡ false
        go true e = absurd (n (node-holds z (row_at k) e))
        go false e = refl

    -- Rows round z that are paired off, all on the one edge b–c that z halves by name.
    told : (a b c : ℕ) → Rows z a b c → {bs : List Brothers} → Matched (rows_of m z) bs → 1 ≤ length bs → All (λ x. edge x.left.r x.right.q ≡ edge b c) bs → Told z
    told a b c P matched some same = record {
      b = b;
      c = c;
      b-below = P.b-below;
      c-below = P.c-below;
      star = star-from m z G.lawful all-newest matched some (edge b c) same
          (middle-edge m (at m z) b c (G.grown.placed z b c lz P.b-below P.c-below P.halves)) (All-of m.tris free);
      span-told = span-is m z G.lawful all-newest matched some (edge b c) same;
      halves = P.halves;
    }
      where
        free : (u : Tri) → Memᴰ u m.tris → holds_edge (edge b c) u ≡ false
        free u i = go (holds_edge (edge b c) u) refl
          where
            go : (x : Bool) → holds_edge (edge b c) u ≡ x → x ≡ false
            go true e =
                let (k, lk, f) = mem-at (tri 0 0 0) i in
                absurd (no_edge G.grown z b c lz P.halves k lk (edge-held (row_at k) b c (subst (λ (v : Tri). holds_edge (edge b c) v ≡ true) (sym f) e)))
            go false e = refl

    -- The rows round z, by number and in order.
    round : {is : List ℕ} → Passing (holds_node z) (tri 0 0 0) m.tris 0 is → rows_of m z ≡ map (λ i. row_of m.tris i) is
    round = only-passing (holds_node z) (tri 0 0 0) m.tris 0

    from-around : (j : ℕ) → ((k : ℕ) → Holds z (rows m k) → j ≤ k) → Around G.grown z j → Told z
    from-around j low (two-rows a b c P first all) =
        told a b c P
        (subst⁻¹ (λ us. Matched us (brothers (row_at P.left) (row_at P.right) ∷ []))
        (round (two-pass (holds_node z) (tri 0 0 0) m.tris P.left P.right P.order (P.left_below, left-holds P) (P.right-below, right-holds P) gap)) (matched-two (joint P)))
        (omega arith) (cons (ends P) nil)
      where
        gap : (k : ℕ) → k < t → k ≢ P.left → k ≢ P.right → holds_node z (row_at k) ≡ false
        gap k l u v = off k (λ h. elim (all k l h) [ inl e ↦ u e | inr e ↦ v e ])
    from-around j low (four-rows a b c d P Q first apart all) =
        told a b c P (matched (dec_lt y x') (dec_lt y y')) (omega arith) (cons (ends P) (cons (ends Q ∙ edge-comm c b) nil))
      where
        x : ℕ
        x = P.left

        y : ℕ
        y = P.right

        x' : ℕ
        x' = Q.left

        y' : ℕ
        y' = Q.right

        px : (x < t) × (holds_node z (row_at x) ≡ true)
        px = (P.left_below, left-holds P)

        py : (y < t) × (holds_node z (row_at y) ≡ true)
        py = (P.right-below, right-holds P)

        px' : (x' < t) × (holds_node z (row_at x') ≡ true)
        px' = (Q.left_below, left-holds Q)

        py' : (y' < t) × (holds_node z (row_at y') ≡ true)
        py' = (Q.right-below, right-holds Q)

        y≢x' : y ≢ x'
        y≢x' e = apart y (inr refl) (inl e)

        y≢y' : y ≢ y'
        y≢y' e = apart y (inr refl) (inr e)

        x-first : x < x'
        x-first =
            let l = low x' (node-holds z (row_at x') (left-holds Q)) in
            let n : x ≢ x' = λ e. apart x (inl refl) (inl e) in
            omega arith

        gap : (k : ℕ) → k < t → k ≢ x → k ≢ y → k ≢ x' → k ≢ y' → holds_node z (row_at k) ≡ false
        gap k l u v u' v' = off k (λ h. elim (all k l h) [ inl s ↦ elim s [ inl e ↦ u e | inr e ↦ v e ] | inr s ↦ elim s [ inl e ↦ u' e | inr e ↦ v' e ] ])

        build : {is : List ℕ} → Passing (holds_node z) (tri 0 0 0) m.tris 0 (x ∷ is) → Memᴰ (row_at y) (map (λ i. row_of m.tris i) is) →
            but (row_at y) (map (λ i. row_of m.tris i) is) ≡ row_at x' ∷ row_at y' ∷ [] → Matched (rows_of m z) (brothers (row_at x) (row_at y) ∷ brothers (row_at x') (row_at y') ∷ [])
        build order i e =
            subst⁻¹ (λ us. Matched us (brothers (row_at x) (row_at y) ∷ brothers (row_at x') (row_at y') ∷ [])) (round order) (matched-four i (joint P) e (joint Q))

        -- the right row of the lower pair stands before, between or after the other two
        matched : Dec (y < x') → Dec (y < y') → Matched (rows_of m z) (brothers (row_at x) (row_at y) ∷ brothers (row_at x') (row_at y') ∷ [])
        matched (yes h) _ =
            build (four-pass (holds_node z) (tri 0 0 0) m.tris x y x' y' P.order h Q.order px py px' py' gap) (Memᴰ.head refl)
            (rw (same_tri-refl (row_at y), differ y x' py.0 px'.0 y≢x', differ y y' py.0 py'.0 y≢y'))
        matched (no n) (yes h) =
            let n' = y≢x' in
            build (four-pass (holds_node z) (tri 0 0 0) m.tris x x' y y' x-first (omega arith) h px px' py py' (λ k l u u' v v'. gap k l u v u' v')) (Memᴰ.tail (Memᴰ.head refl))
            (rw (same_tri-refl (row_at y), differ y x' py.0 px'.0 y≢x', differ y y' py.0 py'.0 y≢y'))
        matched (no n) (no h) =
            let n' = y≢y' in
            build (four-pass (holds_node z) (tri 0 0 0) m.tris x x' y' y x-first Q.order (omega arith) px px' py' py (λ k l u u' v' v. gap k l u v u' v')) (Memᴰ.tail (Memᴰ.tail (Memᴰ.head refl)))
            (rw (same_tri-refl (row_at y), differ y x' py.0 px'.0 y≢x', differ y y' py.0 py'.0 y≢y'))

    -- A NODE NEWEST EVERYWHERE IS A STAR.
    pub newest-told : Told z
    newest-told =
        let (j, lj, h) = G.grown.used z lz in
        let e : j + 0 ≡ j = omega arith in
        let (k, l, hk, low) = least (λ i. Holds z (rows m i)) (holds? z) j 0 (λ i l. absurd (omega arith)) (rw e h) in
        from-around k low (around G.grown z lz added newest (arrow-in-one-row m G.lawful) k (omega arith) hk (λ i li hi. low i hi))

  -- GOOD: added and newest everywhere.
  pub newest-good : (z : ℕ) → z < length m.nodes → length base.nodes ≤ z → Newest z → good (length base.nodes) m z ≡ true
  newest-good z lz added newest =
      star-good (length base.nodes) m z G.lawful lz (record { added = added; round = T.star; alone = alone })
    where
      T : Told z
      T = newest-told z lz added newest

      alone : (y : ℕ) → length base.nodes ≤ y → y < length m.nodes → Star m y → span m z ≡ span m y → y ≡ z
      alone y ay ly s e =
          let U = newest-told y ly ay (star-newest y s) in
          one-node G.grown y z U.b U.c T.b T.c ly lz U.halves T.halves (same-of-edge _ _ _ _ (sym U.span-told ∙ sym e ∙ T.span-told))

  pub good-newest : (z : ℕ) → good (length base.nodes) m z ≡ true → Newest z
  good-newest z e = star-newest z (good-star (length base.nodes) m z G.lawful e).round

  -- A GOOD NODE EXISTS while nodes are added.
  pub good-there : length base.nodes < length m.nodes → (z : ℕ) × Memᴰ z (good_nodes (length base.nodes) m)
  unfolding good_nodes
  good-there more =
      let (v, lv, added, top) = some-newest-node G.grown more in
      (v, only-in (good (length base.nodes) m) (up_to-in (length m.nodes) lv) (newest-good v lv added top))
