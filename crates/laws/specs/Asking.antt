-- W6 as one statement, `asks-exact`: what a question about a point is told, exactly when. The row used is the lowest that holds the point, 14 is
-- given exactly if no row does, any refusal gives 0, 0, and what is told is the mean of that row's corrections. Assumes nothing.
use Rattle.std.specs.Prelude.{Bool, true, ◌&&◌, ◌↔◌, ◌≡◌, ℤ, pos, negsuc, length, ◌≤ℤ◌, ◌<ℤ◌, Option, Some, None, is_some}
use mathlib.Core.List.{Memᴰ}
use Rattle.std.proofs.Common.{inl, inr, sym, subst, ◌∙◌, arith}
use Rattle.std.proofs.Math.Path.{refl, ap, subst⁻¹}
use Prim.Native.Nat.{ℕ, zero, suc, ◌≤◌, ◌<◌}
use Rattle.std.specs.Int.Signed.{le_z}
use Rattle.lists.specs.ListsLaw.{clash, and_both, and_left, and_right, All-get_or}
use Rattle.lists.specs.Search.{lowest}
use Rattle.lists.specs.ByNumberLaw.{where-lowest}
use Rattle.lists.specs.MembersLaw.{mem-at, count-some}
use Rattle.whole.specs.Tests.{le_z-true, le-le_z}
use Rattle.meaning.specs.declared.Correction.{Correction}
use Rattle.meaning.specs.declared.Place.{Place}
use Rattle.meaning.specs.declared.Told.{Told}
use Rattle.meaning.specs.declared.Tri.{Tri}
use Rattle.meaning.specs.Mesh.{Mesh, tri, arrow, arrows, correction, origin, holds_node, node_of, at, turn, twice_area}
use Rattle.meaning.specs.Lawful.{InBounds, Named, Lawful, Lowest, First, Names, row_of}
use Rattle.meaning.specs.Rounding.{Floor}
use Rattle.meaning.specs.Asking.{HoldsPoint, holds_point, weight_p, weight_q, weight_r, weighted, mean_in, RowHolds, Covered, row_holding, dx_of, dy_of, correction_in, correction_by, correction_at}
use Rattle.meaning.specs.Calls.{culprit_of, unless, ask_no, told_as, told, asks}
use Rattle.laws.specs.Culprit.{names-one, culprit-names, ask-due}
use Rattle.laws.specs.Searched.{lowest-exact, found-exact}
use Rattle.laws.specs.Exact.{unfit}
use Rattle.laws.specs.Late.{Exactly, Done, all_sound, Unless, done-0, done-exact, unless-exact, PastSeven, done-past, unless-past, own_line, other-line, LateSays, late-exact, late-past, late-lowest}
use Rattle.laws.specs.RowMean.{CornerOf, corner-of, corner-holds, mean-same, mean-floor, mean-only, mean-from-least, mean-to-greatest, mean-corner, side_same}

-- ---- the row that holds the point

pub holds_exact : (m : Mesh) (P : Place) (t : Tri) → (holds_point m P t ≡ true) ↔ HoldsPoint m P t
holds_exact m P t = (there, λ h. and_both (and_both (le-le_z (pos 0) (weight_p m P t) h.off-qr) (le-le_z (pos 0) (weight_q m P t) h.off-rp)) (le-le_z (pos 0) (weight_r m P t) h.off-pq))
  where
    left : ℤ → Bool
    left w = le_z (pos 0) w

    there : holds_point m P t ≡ true → HoldsPoint m P t
    there e =
        let pq = and_left (left (weight_p m P t) && left (weight_q m P t)) (left (weight_r m P t)) e in
        record {
          off-qr = le_z-true (pos 0) (weight_p m P t) (and_left (left (weight_p m P t)) (left (weight_q m P t)) pq);
          off-rp = le_z-true (pos 0) (weight_q m P t) (and_right (left (weight_p m P t)) (left (weight_q m P t)) pq);
          off-pq = le_z-true (pos 0) (weight_r m P t) (and_right (left (weight_p m P t) && left (weight_q m P t)) (left (weight_r m P t)) e);
        }

module _ (m : Mesh) (P : Place) where
  -- row i holds the point and no lower row does
  abbrev pub LowestHolding : ℕ → Type 0
  LowestHolding = First (length m.tris) (RowHolds m P) (λ j. ¬ RowHolds m P j)

  row_test : ℕ → Bool
  row_test j = holds_point m P (row_of m.tris j)

  row-search : row_holding m P ≡ lowest row_test 0 (length m.tris)
  unfolding row_holding row_test
  row-search = where-lowest (holds_point m P) m.tris (tri 0 0 0)

  test-exact : (j : ℕ) → j < length m.tris → (row_test j ≡ true) ↔ RowHolds m P j
  unfolding row_test
  test-exact j l = holds_exact m P (row_of m.tris j)

  -- THE ROW USED IS THE LOWEST THAT HOLDS THE POINT.
  pub row-exact : (i : ℕ) → (row_holding m P ≡ Some i) ↔ LowestHolding i
  row-exact i = subst⁻¹ (λ o. (o ≡ Some i) ↔ LowestHolding i) row-search (lowest-exact row_test (length m.tris) test-exact i)

  pub covered-exact : (is_some (row_holding m P) ≡ true) ↔ Covered m P
  covered-exact =
      let h = subst⁻¹ (λ o. (is_some o ≡ true) ↔ ((j : ℕ) × (j < length m.tris) × RowHolds m P j)) row-search (found-exact row_test (length m.tris) test-exact) in (
        λ e. (let r = h.0 e in record { row = r.0; row_below = r.1; row-holds = r.2 }),
        λ c. h.1 (c.row, c.row_below, c.row-holds),
      )

  -- ---- the number

  -- 14 "exactly if no triangle holds the point"
  abbrev pub CoveredLines : ℕ → Type 0
  CoveredLines = Unless (Covered m P) (¬ Covered m P) 14 Done

  abbrev pub AskSays : ℕ → Type 0
  AskSays = LateSays m CoveredLines

  pub covered-past : PastSeven CoveredLines
  covered-past = unless-past (omega arith) done-past

  lines-exact : Lawful m → Exactly (unless (is_some (row_holding m P)) 14 0) CoveredLines
  lines-exact law = unless-exact (record { sound = covered-exact; fault = unfit (is_some (row_holding m P)) covered-exact }) 14 done-exact

  -- EACH NUMBER IS GIVEN EXACTLY WHEN ITS LINE SAYS, AND NO OTHER IS.
  pub ask-exact : (k : ℕ) → (ask_no m P ≡ k) ↔ AskSays k
  unfolding ask_no
  ask-exact = late-exact m lines-exact

  pub ask-0 : (ask_no m P ≡ 0) ↔ (Lawful m × Covered m P)
  unfolding ask_no
  ask-0 =
      let h = late-past m lines-exact 0 (inl refl) in
      let l : CoveredLines 0 ↔ (Covered m P × Done 0) = other-line 0 (λ e. absurd (omega arith)) in
      (λ e. ((h.0 e).0, (l.0 (h.0 e).1).0), λ c. h.1 (c.0, l.1 (c.1, all_sound)))

  -- "AFTER 1 AND 3 TO 7, REFUSE AS 14 EXACTLY IF NO TRIANGLE HOLDS THE POINT."
  pub ask-14 : (ask_no m P ≡ 14) ↔ (Lawful m × (¬ Covered m P))
  unfolding ask_no
  ask-14 =
      let h = late-past m lines-exact 14 (inr (omega arith)) in
      let l : CoveredLines 14 ↔ (¬ Covered m P) = own_line not_done in
      (λ e. ((h.0 e).0, l.0 (h.0 e).1), λ c. h.1 (c.0, l.1 c.1))
    where
      not_done : ¬ Done 14
      not_done d = absurd (omega (arith, done-0 d))

  pub ask-lowest : (k : ℕ) → 0 < k → k ≤ 7 → (ask_no m P ≡ k) ↔ Lowest m k
  unfolding ask_no
  ask-lowest = late-lowest m lines-exact covered-past

  -- ---- what is told

  -- the correction c is what row i makes of the point: each part "rounded down from the exact fraction"
  pub record MeanOf (i : ℕ) (c : Correction) : Type 0 where
    pub lowest-holding : LowestHolding i
    pub area-above : pos 0 <ℤ twice_area m (row_of m.tris i)
    pub dx-down : Floor (weighted (dx_of m) m P (row_of m.tris i)) (twice_area m (row_of m.tris i)) c.dx
    pub dy-down : Floor (weighted (dy_of m) m P (row_of m.tris i)) (twice_area m (row_of m.tris i)) c.dy

  pub data Tells : Told → Type 0 where
    -- "any refusal gives 0, 0", and names what every call names with its number
    refuses : (k z : ℕ) → 0 < k → AskSays k → Names m k z → Tells (told_as k (pos 0) (pos 0) z)
    -- "Find the lowest row whose closed triangle holds it and answer the mean of its three corrections"
    answers : Lawful m → (i : ℕ) (c : Correction) → MeanOf i c → Tells (record { number = 0; correction = c; culprit = 0 })

  by_row : (i : ℕ) → row_holding m P ≡ Some i → correction_at m P ≡ correction_in m P (row_of m.tris i)
  unfolding correction_at
  by_row i e = ap (correction_by m P) e

  above : Lawful m → (i : ℕ) → i < length m.tris → pos 0 <ℤ twice_area m (row_of m.tris i)
  above law i h = All-get_or law.positive i (tri 0 0 0) h

  -- the row, and its mean
  pub answered : ask_no m P ≡ 0 → (i : ℕ) × MeanOf i (correction_at m P)
  answered e =
      let (law, c) = ask-0.0 e in
      go law (row_holding m P) refl (covered-exact.1 c)
    where
      go : Lawful m → (o : Option ℕ) → row_holding m P ≡ o → is_some (row_holding m P) ≡ true → (i : ℕ) × MeanOf i (correction_at m P)
      go law (Some i) q h =
          let f = (row-exact i).0 q in
          let a = above law i f.below in
          (i, subst⁻¹ (MeanOf i) (by_row i q) (record { lowest-holding = f; area-above = a; dx-down = mean-floor (dx_of m) m (row_of m.tris i) a P; dy-down = mean-floor (dy_of m) m (row_of m.tris i) a P }))
      go law None q h = clash (sym h ∙ ap is_some q)

  -- one mean and no other
  mean-one : Lawful m → (i : ℕ) (c : Correction) → MeanOf i c → correction_at m P ≡ c
  mean-one law i c h =
      let t = row_of m.tris i in
      by_row i ((row-exact i).1 h.lowest-holding)
      ∙ (λ j. correction (mean-only (dx_of m) m t h.area-above P c.dx h.dx-down j) (mean-only (dy_of m) m t h.area-above P c.dy h.dy-down j))

  ask-names : (k : ℕ) → ask_no m P ≡ k → Names m k (culprit_of m k)
  ask-names k e = subst (λ j. Names m j (culprit_of m j)) e (culprit-names m (ask_no m P) (ask-due m P))

  asks-tells : Tells (asks m P)
  unfolding asks
  asks-tells = go (ask_no m P) refl
    where
      go : (k : ℕ) → ask_no m P ≡ k → Tells (told k (culprit_of m k) (correction_at m P))
      go zero e = let (i, h) = answered e in answers (ask-0.0 e).0 i (correction_at m P) h
      go (suc k) e = refuses (suc k) (culprit_of m (suc k)) (omega arith) ((ask-exact (suc k)).0 e) (ask-names (suc k) e)

  tells-asks : {r : Told} → Tells r → asks m P ≡ r
  unfolding asks
  tells-asks (refuses k z h s n) = go k h ((ask-exact k).1 s) n
    where
      go : (k : ℕ) → 0 < k → ask_no m P ≡ k → Names m k z → told (ask_no m P) (culprit_of m (ask_no m P)) (correction_at m P) ≡ told_as k (pos 0) (pos 0) z
      go zero h e n = absurd (omega arith)
      go (suc k) h e n = ap (λ j. told j (culprit_of m j) (correction_at m P)) e ∙ ap (λ c. told (suc k) c (correction_at m P)) (names-one (ask-names (suc k) e) n)
  tells-asks (answers law i c h) =
      let f = h.lowest-holding in
      let z : ask_no m P ≡ 0 = ask-0.1 (law, record { row = i; row_below = f.below; row-holds = f.at-fault }) in
      ap (λ j. told j (culprit_of m j) (correction_at m P)) z ∙ ap (told 0 0) (mean-one law i c h)

  -- WHAT IS TOLD IS WHAT THE REQUEST SAYS, AND NOTHING ELSE IS.
  pub asks-exact : (r : Told) → (asks m P ≡ r) ↔ Tells r
  asks-exact r = (λ e. subst Tells e asks-tells, tells-asks)

  -- "ANY REFUSAL GIVES 0, 0."
  pub asks-refused : (0 < (asks m P).number) → (asks m P).correction ≡ correction (pos 0) (pos 0)
  asks-refused = go asks-tells
    where
      go : {r : Told} → Tells r → 0 < r.number → r.correction ≡ correction (pos 0) (pos 0)
      go (refuses k z h s n) l = refl
      go (answers law i c h) l = absurd (omega arith)

-- ---- what the mean is

-- x is not below the least and not above the greatest of the three values of row t's nodes
pub record Between (t : Tri) (f : ℕ → ℤ) (x : ℤ) : Type 0 where
  pub from-least : (l : ℤ) → l ≤ℤ f t.p → l ≤ℤ f t.q → l ≤ℤ f t.r → l ≤ℤ x
  pub to-greatest : (g : ℤ) → f t.p ≤ℤ g → f t.q ≤ℤ g → f t.r ≤ℤ g → x ≤ℤ g

-- c is what was told, by row i
module _ {m : Mesh} {P : Place} {i : ℕ} {c : Correction} (h : MeanOf m P i c) where
  abbrev used : Tri
  used = row_of m.tris i

  dx-is : mean_in (dx_of m) m P used ≡ c.dx
  dx-is = mean-only (dx_of m) m used h.area-above P c.dx h.dx-down

  dy-is : mean_in (dy_of m) m P used ≡ c.dy
  dy-is = mean-only (dy_of m) m used h.area-above P c.dy h.dy-down

  -- it is what that row makes of the point
  pub told_is : correction_in m P used ≡ c
  told_is j = correction (dx-is j) (dy-is j)

  between : (f : ℕ → ℤ) → Between used f (mean_in f m P used)
  between f = record {
    from-least = mean-from-least f m used h.area-above P h.lowest-holding.at-fault;
    to-greatest = mean-to-greatest f m used h.area-above P h.lowest-holding.at-fault;
  }

  -- IT LIES BETWEEN THE LEAST AND THE GREATEST OF THE THREE CORRECTIONS, PART BY PART,
  pub told-between : Between used (dx_of m) c.dx × Between used (dy_of m) c.dy
  told-between = (subst (Between used (dx_of m)) dx-is (between (dx_of m)), subst (Between used (dy_of m)) dy-is (between (dy_of m)))

  -- so it is in the range of a correction
  pub told-in-range : Lawful m → InBounds c
  told-in-range law =
      let N : Named (length m.nodes) used = All-get_or law.named i (tri 0 0 0) h.lowest-holding.below in
      let p = carries used.p N.p-below in
      let q = carries used.q N.q-below in
      let r = carries used.r N.r-below in
      let (x, y) = told-between in
      record {
        dx-from = x.from-least (negsuc 32_767) p.dx-from q.dx-from r.dx-from;
        dx-to = x.to-greatest (pos 32_767) p.dx-to q.dx-to r.dx-to;
        dy-from = y.from-least (negsuc 32_767) p.dy-from q.dy-from r.dy-from;
        dy-to = y.to-greatest (pos 32_767) p.dy-to q.dy-to r.dy-to;
      }
    where
      carries : (k : ℕ) → k < length m.nodes → InBounds (node_of m k).correction
      carries k l = (All-get_or law.range k origin l).correction-in

  -- AT A CORNER OF THE ROW IT IS WHAT THE NODE CARRIES, EXACTLY.
  pub told-corner : {k : ℕ} → CornerOf used k → P ≡ at m k → c ≡ (node_of m k).correction
  told-corner {k} o e =
      sym told_is ∙ ap (λ Q. correction_in m Q used) e
      ∙ (λ j. correction (mean-corner (dx_of m) m used h.area-above o j) (mean-corner (dy_of m) m used h.area-above o j))

  -- ON A SIDE THAT ANOTHER ROW SHARES, THAT ROW WOULD HAVE TOLD THE SAME.
  pub told-side : {u : Tri} {x y : ℕ} → pos 0 <ℤ twice_area m u → Memᴰ (arrow x y) (arrows used) → Memᴰ (arrow y x) (arrows u) → turn (at m x) (at m y) P ≡ pos 0 → correction_in m P u ≡ c
  told-side {u} a i j e =
      let x = mean-same (dx_of m) (dx_of m) m m P used u h.area-above a (side_same (dx_of m) m P i j e) in
      let y = mean-same (dy_of m) (dy_of m) m m P used u h.area-above a (side_same (dy_of m) m P i j e) in
      sym (λ k. correction (x k) (y k)) ∙ told_is

-- THE PLACE OF A NODE IS HELD BY A ROW, so that a question there is not refused as 14
pub node-covered : (m : Mesh) → Lawful m → (k : ℕ) → k < length m.nodes → Covered m (at m k)
node-covered m law k l =
    let (t, i, e) = count-some (holds_node k) m.tris (law.used k l) in
    let (j, b, q) = mem-at (tri 0 0 0) i in
    record {
      row = j;
      row_below = b;
      row-holds = corner-holds m (row_of m.tris j) (All-get_or law.positive j (tri 0 0 0) b) (corner-of (row_of m.tris j) k (subst⁻¹ (λ x. holds_node k x ≡ true) q e));
    }
