-- The base check of W7 gives each number exactly when its line says: the lowest of 3 to 7 that applies; of a lawful mesh 11, 12 and 10, in this order;
-- and 0 of a lawful, proper mesh with a compatible labelling. Assumes nothing.
use Rattle.std.specs.Prelude.{◌⊎◌, ◌↔◌, ◌≡◌, refl, ℕ, ◌≤◌, ◌<◌, length}
use Rattle.std.proofs.Common.{inl, inr, arith}
use Rattle.meaning.specs.Mesh.{Mesh}
use Rattle.meaning.specs.Lawful.{Lawful, Lowest, Compatible, compatible}
use Rattle.meaning.specs.Proper.{Crowded, Overlaps}
use Rattle.meaning.specs.Calls.{unless, base_no, check_no}
use Rattle.laws.specs.Exact.{unfit}
use Rattle.laws.specs.Lawful.{compatible-exact}
use Rattle.laws.specs.Late.{Exactly, Done, all_sound, Unless, done-0, done-exact, unless-exact, PastSeven, done-past, unless-past, own_line, other-line, LateSays, late-exact, late-past, late-lowest}
use Rattle.proper.proofs.ProperLaw.{uncrowded-exact, crowded-somewhere, disjoint-exact, overlaps-somewhere, none-proper, not-crowded, not-overlapping}
use Rattle.proper.specs.Flawless.{Flawless}

module _ (m : Mesh) where
  -- 11: "two nodes stand at one place or a node lies strictly inside an edge"
  abbrev pub SomeCrowded : Type 0
  SomeCrowded = (k : ℕ) × (k < length m.nodes) × Crowded m k

  abbrev pub NoneCrowded : Type 0
  NoneCrowded = (k : ℕ) → k < length m.nodes → ¬ Crowded m k

  -- 12: "two triangles share an interior point"
  abbrev pub SomeOverlap : Type 0
  SomeOverlap = (i : ℕ) × (i < length m.tris) × Overlaps m i

  abbrev pub NoneOverlaps : Type 0
  NoneOverlaps = (i : ℕ) → i < length m.tris → ¬ Overlaps m i

  -- when each number is given of a lawful mesh, line by line: "in the order 7, 11, 12, 10"
  abbrev pub LabelLines : ℕ → Type 0
  LabelLines = Unless (Compatible m) (¬ Compatible m) 10 Done

  abbrev pub OverlapLines : ℕ → Type 0
  OverlapLines = Unless NoneOverlaps SomeOverlap 12 LabelLines

  abbrev pub BaseLines : ℕ → Type 0
  BaseLines = Unless NoneCrowded SomeCrowded 11 OverlapLines

  -- and of any mesh
  abbrev pub CheckSays : ℕ → Type 0
  CheckSays = LateSays m BaseLines

  pub base-past : PastSeven BaseLines
  base-past = unless-past (omega arith) (unless-past (omega arith) (unless-past (omega arith) done-past))

  label-exact : Exactly (unless (compatible m) 10 0) LabelLines
  label-exact = unless-exact (record { sound = compatible-exact m; fault = unfit (compatible m) (compatible-exact m) }) 10 done-exact

  base-exact : Lawful m → Exactly (base_no m) BaseLines
  base-exact law =
      unless-exact (record { sound = uncrowded-exact m; fault = crowded-somewhere m }) 11
      (unless-exact (record { sound = disjoint-exact m law; fault = overlaps-somewhere m law }) 12 label-exact)

  -- EACH NUMBER IS GIVEN EXACTLY WHEN ITS LINE SAYS, AND NO OTHER IS.
  pub check-exact : (k : ℕ) → (check_no m ≡ k) ↔ CheckSays k
  unfolding check_no
  check-exact = late-exact m base-exact

  -- ---- number by number

  past : (k : ℕ) → (k ≡ 0) ⊎ (7 < k) → (check_no m ≡ k) ↔ (Lawful m × BaseLines k)
  unfolding check_no
  past = late-past m base-exact

  not_done : (k : ℕ) → 0 < k → ¬ Done k
  not_done k h d = absurd (omega (arith, done-0 d))

  not-label : (k : ℕ) → 10 < k → ¬ LabelLines k
  not-label k h l = not_done k (omega arith) ((other-line k (λ e. absurd (omega arith))).0 l).1

  not-overlap : ¬ OverlapLines 11
  not-overlap l = not-label 11 (omega arith) ((other-line 11 (λ e. absurd (omega arith))).0 l).1

  pub check-lowest : (k : ℕ) → 0 < k → k ≤ 7 → (check_no m ≡ k) ↔ Lowest m k
  unfolding check_no
  check-lowest = late-lowest m base-exact base-past

  -- "AS 11 WHEN TWO NODES STAND AT ONE PLACE OR A NODE LIES STRICTLY INSIDE AN EDGE,"
  pub check-11 : (check_no m ≡ 11) ↔ (Lawful m × SomeCrowded)
  check-11 =
      let h = past 11 (inr (omega arith)) in
      let l : BaseLines 11 ↔ SomeCrowded = own_line not-overlap in
      (λ e. ((h.0 e).0, l.0 (h.0 e).1), λ c. h.1 (c.0, l.1 c.1))

  -- "AND AS 12 WHEN TWO TRIANGLES SHARE AN INTERIOR POINT .., IN THE ORDER 7, 11, 12, 10"
  pub check-12 : (check_no m ≡ 12) ↔ (Lawful m × NoneCrowded × SomeOverlap)
  check-12 =
      let h = past 12 (inr (omega arith)) in
      let l : BaseLines 12 ↔ (NoneCrowded × OverlapLines 12) = other-line 12 (λ e. absurd (omega arith)) in
      let o : OverlapLines 12 ↔ SomeOverlap = own_line (not-label 12 (omega arith)) in
      (λ e. let c = l.0 (h.0 e).1 in ((h.0 e).0, c.0, o.0 c.1), λ c. h.1 (c.0, l.1 (c.1, o.1 c.2)))

  -- 10, and 0: of a mesh that is lawful and proper
  flawless : (k : ℕ) → k ≤ 10 → (k ≡ 0) ⊎ (7 < k) → (check_no m ≡ k) ↔ (Flawless m × LabelLines k)
  flawless k low o =
      let h = past k o in
      let l : BaseLines k ↔ (NoneCrowded × OverlapLines k) = other-line k (λ e. absurd (omega arith)) in
      let r : OverlapLines k ↔ (NoneOverlaps × LabelLines k) = other-line k (λ e. absurd (omega arith)) in (
        (λ e. let b = l.0 (h.0 e).1 in let d = r.0 b.1 in (record { lawful = (h.0 e).0; proper = none-proper m b.0 d.0 }, d.1)),
        λ c. h.1 (c.0.lawful, l.1 (not-crowded m c.0.proper, r.1 (not-overlapping m c.0.proper, c.1))),
      )

  pub check-10 : (check_no m ≡ 10) ↔ (Flawless m × (¬ Compatible m))
  check-10 =
      let h = flawless 10 (omega arith) (inr (omega arith)) in
      let l : LabelLines 10 ↔ (¬ Compatible m) = own_line (not_done 10 (omega arith)) in
      (λ e. ((h.0 e).0, l.0 (h.0 e).1), λ c. h.1 (c.0, l.1 c.1))

  -- A BASE IS ADMITTED EXACTLY IF IT IS LAWFUL AND PROPER AND ITS LABELLING COMPATIBLE.
  pub check-0 : (check_no m ≡ 0) ↔ (Flawless m × Compatible m)
  check-0 =
      let h = flawless 0 (omega arith) (inl refl) in
      let l : LabelLines 0 ↔ (Compatible m × Done 0) = other-line 0 (λ e. absurd (omega arith)) in
      (λ e. ((h.0 e).0, (l.0 (h.0 e).1).0), λ c. h.1 (c.0, l.1 (c.1, all_sound)))
