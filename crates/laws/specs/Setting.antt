-- W5, setting: node z carries c after it and nothing else differs, so that the mesh is lawful and of the same total; each number is given exactly when
-- its line says; what it names. Assumes nothing.
use Rattle.std.specs.Prelude.{Bool, true, false, ◌↔◌, ◌≢◌, ◌⊎◌, ◌≡◌, refl, leb, ltb, ◌<ℤ◌, set, Option, Some, None}
use mathlib.Core.List.{List}
use Rattle.std.proofs.Common.{inl, inr, ap, ◌∙◌, arith, leb-true, leb-false, ltb-true, ltb-false}
use Rattle.std.proofs.Math.Path.{sym, subst}
use Prim.Native.Nat.{ℕ, zero, suc, ◌≤◌, ◌<◌}
use Rattle.std.proofs.Math.IntN.{pos}
use Rattle.std.proofs.Math.ListN.{length, length-set}
use Rattle.std.proofs.Math.Seq.{get_or-set_same, get_or-set_other, map-set_same}
use Rattle.lists.specs.Lists.{on_found, All, nil, cons}
use Rattle.lists.specs.ListsLaw.{clash, All-imp, All-get_or}
use Rattle.meaning.specs.declared.Node.{Node}
use Rattle.meaning.specs.declared.Correction.{Correction}
use Rattle.meaning.specs.Mesh.{Mesh, node, node_of, at, origin, total}
use Rattle.meaning.specs.Lawful.{InBounds, NodeInRange, Lawful, Applies, Other, Names, names-3, names-none, beyond, first_outside, fault, or_later}
use Rattle.meaning.specs.Setting.{corrected, SetApplies, of-mesh, value_out, base-node, not-below, SetSays, SetNames, names-stored, names-given, found_if, or_found, set_fault}
use Rattle.laws.specs.Faults.{first-3, none-3, bounds-exact}
use Rattle.laws.specs.Lawful.{LowestFrom, link, lowest-one, links-4-7, at-least-3, at-most-7, found-3, not-3}
use Rattle.laws.specs.CoarsenCalls.{lowest-0}
use Rattle.laws.specs.Culprit.{names-or-later, names-4-7, names-one, named-3, named-0}
use Rattle.laws.specs.Exact.{refuted}
use Rattle.laws.specs.PlaceOnly.{SamePlaces, area-by-place, total-by-place}

-- ---- the mesh after it

module _ (m : Mesh) (z : ℕ) (c : Correction) where
  pub corrected-count : length (corrected m z c).nodes ≡ length m.nodes
  unfolding corrected
  corrected-count = length-set m.nodes z (node (at m z) c)

  -- every node stands where it stood
  pub corrected-places : SamePlaces m (corrected m z c)
  unfolding corrected
  corrected-places = record { rows_same = refl; places_same = sym (map-set_same (λ a. a.place) m.nodes z (node (at m z) c) origin refl) }

  -- node z carries c
  pub corrected-here : z < length m.nodes → node_of (corrected m z c) z ≡ node (at m z) c
  unfolding corrected
  corrected-here h = get_or-set_same m.nodes z (node (at m z) c) origin h

  -- every other node is as it was
  pub corrected-other : (k : ℕ) → k ≢ z → node_of (corrected m z c) k ≡ node_of m k
  unfolding corrected
  corrected-other k o = get_or-set_other m.nodes z k (node (at m z) c) origin o

  pub corrected-total : total (corrected m z c) ≡ total m
  corrected-total = sym (total-by-place corrected-places)

  -- A LAWFUL MESH IS LAWFUL AFTER IT.
  pub corrected-lawful : Lawful m → InBounds c → Lawful (corrected m z c)
  unfolding corrected
  corrected-lawful law b = record {
    range = set_all m.nodes z law.range (λ h. record { place_in = (All-get_or law.range z origin h).place_in; correction-in = b });
    named = rw corrected-count law.named;
    no_twice = law.no_twice;
    positive = All-imp (λ t p. subst (λ x. pos 0 <ℤ x) (area-by-place corrected-places t) p) law.positive;
    used = λ y h. law.used y (rw corrected-count at h);
  }
    where
      set_all : {P : Node → Type 0} {a : Node} (l : List Node) (i : ℕ) → All P l → (i < length l → P a) → All P (set l i a)
      set_all l i nil h = nil
      set_all l zero (cons p ps) h = cons (h (omega arith)) ps
      set_all l (suc i) (cons p ps) h = cons p (set_all _ i ps (λ b. h (omega arith)))

-- ---- the number

-- what `found_if` and `or_found` find
if_yes : (b : Bool) (i j : ℕ) → found_if b i ≡ Some j → (b ≡ true) × (i ≡ j)
if_yes true i j e = (refl, ap (λ f. on_found f (λ k. k) 0) e)
if_yes false i j e = absurd (let w : ◌≡◌ {A = ℕ} 0 1 = ap (λ f. on_found f (λ k. 1) 0) e in omega arith)

if_no : (b : Bool) (i : ℕ) → found_if b i ≡ None → b ≡ false
if_no true i e = absurd (let w : ◌≡◌ {A = ℕ} 1 0 = ap (λ f. on_found f (λ k. 1) 0) e in omega arith)
if_no false i e = refl

either-found : (f g : Option ℕ) (i : ℕ) → or_found f g ≡ Some i → (f ≡ Some i) ⊎ ((f ≡ None) × (g ≡ Some i))
either-found (Some j) g i e = inl e
either-found None g i e = inr (refl, e)

neither-found : (f g : Option ℕ) → or_found f g ≡ None → (f ≡ None) × (g ≡ None)
neither-found (Some j) g e = absurd (let w : ◌≡◌ {A = ℕ} 1 0 = ap (λ f. on_found f (λ k. 1) 0) e in omega arith)
neither-found None g e = (refl, e)

module _ (n0 : ℕ) (m : Mesh) (z : ℕ) (c : Correction) where
  -- 3 stored, or for the value
  which-3 : (i : ℕ) → or_found (first_outside m) (found_if (beyond c) z) ≡ Some i → (first_outside m ≡ Some i) ⊎ ((first_outside m ≡ None) × (beyond c ≡ true) × (z ≡ i))
  which-3 i e = go (either-found (first_outside m) (found_if (beyond c) z) i e)
    where
      go : (first_outside m ≡ Some i) ⊎ ((first_outside m ≡ None) × (found_if (beyond c) z ≡ Some i)) → (first_outside m ≡ Some i) ⊎ ((first_outside m ≡ None) × (beyond c ≡ true) × (z ≡ i))
      go (inl f) = inl f
      go (inr (f, g)) = let h = if_yes (beyond c) z i g in inr (f, h.0, h.1)

  not-bounded : beyond c ≡ true → ¬ InBounds c
  not-bounded e b = clash (sym e ∙ (bounds-exact c).1 b)

  none-3-set : or_found (first_outside m) (found_if (beyond c) z) ≡ None → All NodeInRange m.nodes × InBounds c
  none-3-set e =
      let h = neither-found (first_outside m) (found_if (beyond c) z) e in
      (none-3 m h.0, (bounds-exact c).0 (if_no (beyond c) z h.1))

  -- which lines may give a number
  from-3 : {k : ℕ} → SetApplies n0 m z c k → 3 ≤ k
  from-3 (of-mesh k a) = at-least-3 a
  from-3 (value_out f) = omega arith
  from-3 (base-node l) = omega arith
  from-3 (not-below l) = omega arith

  to-mesh : (k : ℕ) → 4 ≤ k → k ≤ 7 → SetApplies n0 m z c k → Applies m k
  to-mesh k l h s = go s l h
    where
      go : {k : ℕ} → SetApplies n0 m z c k → 4 ≤ k → k ≤ 7 → Applies m k
      go (of-mesh k a) l h = a
      go (value_out f) l h = absurd (omega arith)
      go (base-node b) l h = absurd (omega arith)
      go (not-below b) l h = absurd (omega arith)

  not-3-set : All NodeInRange m.nodes → InBounds c → ¬ SetApplies n0 m z c 3
  not-3-set r b (of-mesh k a) = not-3 r a
  not-3-set r b (value_out f) = f b

  -- 13 or 15, and why
  abbrev Late : ℕ → Type 0
  Late j = ((j ≡ 13) × (z < n0)) ⊎ ((j ≡ 15) × (length m.nodes ≤ z))

  after-7 : {j : ℕ} → 8 ≤ j → SetApplies n0 m z c j → Late j
  after-7 l (of-mesh k a) = absurd (omega (arith, at-most-7 a))
  after-7 l (value_out f) = absurd (omega arith)
  after-7 l (base-node b) = inl (refl, b)
  after-7 l (not-below b) = inr (refl, b)

  -- 13, then 15, from any number above 7 on
  from-8 : LowestFrom (SetApplies n0 m z c) 8 (or_later 13 (found_if (ltb z n0) 0) (or_later 15 (found_if (leb (length m.nodes) z) 0) (fault 0 0))).number
  from-8 = go (ltb z n0) refl (leb (length m.nodes) z) refl
    where
      go : (b : Bool) → ltb z n0 ≡ b → (d : Bool) → leb (length m.nodes) z ≡ d → LowestFrom (SetApplies n0 m z c) 8 (or_later 13 (found_if b 0) (or_later 15 (found_if d 0) (fault 0 0))).number
      go true p d q = record { applies = λ h. base-node (ltb-true z n0 p); no_lower = λ j l a. least j (after-7 l a) }
        where
          least : (j : ℕ) → Late j → (0 < 13) × (13 ≤ j)
          least j (inl h) = omega (arith, h.0)
          least j (inr h) = omega (arith, h.0)
      go false p true q = record { applies = λ h. not-below (leb-true (length m.nodes) z q); no_lower = λ j l a. least j (after-7 l a) }
        where
          least : (j : ℕ) → Late j → (0 < 15) × (15 ≤ j)
          least j (inl h) = absurd (omega (arith, h.1, ltb-false z n0 p))
          least j (inr h) = omega (arith, h.0)
      go false p false q = record { applies = λ h. absurd (omega arith); no_lower = λ j l a. absurd (none j (after-7 l a)) }
        where
          none : (j : ℕ) → Late j → ⊥
          none j (inl h) = omega (arith, h.1, ltb-false z n0 p)
          none j (inr h) = omega (arith, h.1, leb-false (length m.nodes) z q)

  -- THE NUMBER IS THE LOWEST THAT APPLIES.
  set-lowest : SetSays n0 m z c (set_fault n0 m z c).number
  unfolding set_fault
  set-lowest = record { applies = whole.applies; no_lower = λ j a. whole.no_lower j (from-3 a) a }
    where
      found : (i : ℕ) → or_found (first_outside m) (found_if (beyond c) z) ≡ Some i → SetApplies n0 m z c 3
      found i e = go (which-3 i e)
        where
          go : (first_outside m ≡ Some i) ⊎ ((first_outside m ≡ None) × (beyond c ≡ true) × (z ≡ i)) → SetApplies n0 m z c 3
          go (inl f) = of-mesh 3 (found-3 m i f)
          go (inr (f, b, w)) = value_out (not-bounded b)

      whole : LowestFrom (SetApplies n0 m z c) 3 (set_fault n0 m z c).number
      whole =
          link (SetApplies n0 m z c) 3 (or_found (first_outside m) (found_if (beyond c) z)) _ (omega arith) found λ e. (
            (let h = none-3-set e in not-3-set h.0 h.1),
            links-4-7 m (SetApplies n0 m z c) of-mesh to-mesh _ from-8,
          )

  -- EACH NUMBER IS GIVEN EXACTLY WHEN ITS LINE SAYS, AND NO OTHER IS.
  pub set-exact : (k : ℕ) → ((set_fault n0 m z c).number ≡ k) ↔ SetSays n0 m z c k
  set-exact k = (λ e. subst (SetSays n0 m z c) e set-lowest, λ l. lowest-one (SetApplies n0 m z c) (set_fault n0 m z c).number k set-lowest l)

  pub set-not-1 : ¬ SetSays n0 m z c 1
  set-not-1 l = omega (arith, from-3 (l.applies (omega arith)))

  -- ---- what it names

  -- THE NODE OR ROW THAT IS NAMED.
  pub set-names : SetNames m z c (set_fault n0 m z c).number (set_fault n0 m z c).at
  unfolding set_fault
  set-names =
      names-or-later (SetNames m z c) 3 (or_found (first_outside m) (found_if (beyond c) z)) _ found λ e.
      names-4-7 m (SetNames m z c) (λ k y n. names-stored n) _
      (names-or-later (SetNames m z c) 13 (found_if (ltb z n0) 0) _ (λ i f. subst (SetNames m z c 13) (if_yes (ltb z n0) 0 i f).1 (nobody 13 (inr (omega arith)))) λ f.
      names-or-later (SetNames m z c) 15 (found_if (leb (length m.nodes) z) 0) _ (λ i g. subst (SetNames m z c 15) (if_yes (leb (length m.nodes) z) 0 i g).1 (nobody 15 (inr (omega arith)))) λ g.
      nobody 0 (inl (omega arith)))
    where
      nobody : (k : ℕ) → Other k → SetNames m z c k 0
      nobody k o = names-stored (names-none k o)

      found : (i : ℕ) → or_found (first_outside m) (found_if (beyond c) z) ≡ Some i → SetNames m z c 3 i
      found i e = go (which-3 i e)
        where
          go : (first_outside m ≡ Some i) ⊎ ((first_outside m ≡ None) × (beyond c ≡ true) × (z ≡ i)) → SetNames m z c 3 i
          go (inl f) = names-stored (names-3 (first-3 m i f))
          go (inr (f, b, w)) = subst (SetNames m z c 3) w (names-given (none-3 m f) (not-bounded b))

-- with 0 it names nobody
pub set-nobody : (n0 : ℕ) (m : Mesh) (z : ℕ) (c : Correction) → (set_fault n0 m z c).number ≡ 0 → (set_fault n0 m z c).at ≡ 0
set-nobody n0 m z c e = go (set-names n0 m z c) e
  where
    go : {k y : ℕ} → SetNames m z c k y → k ≡ 0 → y ≡ 0
    go (names-stored n) q = named-0 n (inl (omega arith))
    go (names-given r f) q = absurd (omega arith)

stored-clash : {m : Mesh} {y : ℕ} → Names m 3 y → All NodeInRange m.nodes → ⊥
stored-clash a r = let f = named-3 a in f.at-fault (All-get_or r _ origin f.below)

-- One culprit and no other.
pub set-names-one : {m : Mesh} {z : ℕ} {c : Correction} {k x y : ℕ} → SetNames m z c k x → SetNames m z c k y → x ≡ y
set-names-one (names-stored a) (names-stored b) = names-one a b
set-names-one (names-stored a) (names-given r f) = absurd (stored-clash a r)
set-names-one (names-given r f) (names-stored b) = absurd (stored-clash b r)
set-names-one (names-given r f) (names-given s g) = refl

-- ---- number by number

module _ (n0 : ℕ) (m : Mesh) (z : ℕ) (c : Correction) where
  -- 0 exactly of a lawful mesh, a value in its range, and an added node
  pub set-0 : ((set_fault n0 m z c).number ≡ 0) ↔ (Lawful m × InBounds c × (n0 ≤ z) × (z < length m.nodes))
  set-0 = (λ e. there ((set-exact n0 m z c 0).0 e), λ h. (set-exact n0 m z c 0).1 (back h))
    where
      there : SetSays n0 m z c 0 → Lawful m × InBounds c × (n0 ≤ z) × (z < length m.nodes)
      there l = (
        (lowest-0 m).0 (record { applies = λ h. absurd (omega arith); no_lower = λ j a. absurd (omega (arith, l.no_lower j (of-mesh j a))) }),
        (bounds-exact c).0 (refuted (beyond c) (λ e. omega (arith, l.no_lower 3 (value_out (λ b. clash (sym e ∙ (bounds-exact c).1 b)))))),
        ltb-false z n0 (refuted (ltb z n0) (λ e. omega (arith, l.no_lower 13 (base-node (ltb-true z n0 e))))),
        leb-false (length m.nodes) z (refuted (leb (length m.nodes) z) (λ e. omega (arith, l.no_lower 15 (not-below (leb-true (length m.nodes) z e))))),
      )

      back : Lawful m × InBounds c × (n0 ≤ z) × (z < length m.nodes) → SetSays n0 m z c 0
      back (law, b, a, l) = record { applies = λ h. absurd (omega arith); no_lower = λ j s. absurd (none s) }
        where
          none : {j : ℕ} → SetApplies n0 m z c j → ⊥
          none (of-mesh k s) = omega (arith, ((lowest-0 m).1 law).no_lower k s)
          none (value_out f) = f b
          none (base-node h) = omega arith
          none (not-below h) = omega arith

  -- of a lawful mesh and a value in its range
  module _ (law : Lawful m) (b : InBounds c) where
    late : {j : ℕ} → SetApplies n0 m z c j → Late n0 m z c j
    late (of-mesh k a) = absurd (omega (arith, ((lowest-0 m).1 law).no_lower k a))
    late (value_out f) = absurd (f b)
    late (base-node h) = inl (refl, h)
    late (not-below h) = inr (refl, h)

    -- 13 EXACTLY FOR A BASE NODE.
    pub set-13 : ((set_fault n0 m z c).number ≡ 13) ↔ (z < n0)
    set-13 = (λ e. there (late (((set-exact n0 m z c 13).0 e).applies (omega arith))), λ h. (set-exact n0 m z c 13).1 (record { applies = λ l. base-node h; no_lower = λ j a. least (late a) }))
      where
        there : Late n0 m z c 13 → z < n0
        there (inl h) = h.1
        there (inr h) = absurd (omega (arith, h.0))

        least : {j : ℕ} → Late n0 m z c j → (0 < 13) × (13 ≤ j)
        least (inl h) = omega (arith, h.0)
        least (inr h) = omega (arith, h.0)

    -- 15 EXACTLY FOR A NUMBER NOT BELOW n. (n0 ≤ n, by the sizes, so that none is both)
    pub set-15 : n0 ≤ length m.nodes → ((set_fault n0 m z c).number ≡ 15) ↔ (length m.nodes ≤ z)
    set-15 le = (λ e. there (late (((set-exact n0 m z c 15).0 e).applies (omega arith))), λ h. (set-exact n0 m z c 15).1 (record { applies = λ l. not-below h; no_lower = λ j a. least h (late a) }))
      where
        there : Late n0 m z c 15 → length m.nodes ≤ z
        there (inl h) = absurd (omega (arith, h.0))
        there (inr h) = h.1

        least : {j : ℕ} → length m.nodes ≤ z → Late n0 m z c j → (0 < 15) × (15 ≤ j)
        least l (inl h) = absurd (omega (arith, h.1))
        least l (inr h) = omega (arith, h.0)

-- what a setting that says 0 has done
pub record Corrected (m : Mesh) (z : ℕ) (c : Correction) (after : Mesh) : Type 0 where
  pub lawful : Lawful after
  pub total_kept : total after ≡ total m
  -- the node given stands where it stood and carries c
  pub node-set : node_of after z ≡ node (at m z) c
  -- nothing else differs
  pub others-kept : (k : ℕ) → k ≢ z → node_of after k ≡ node_of m k
  pub count_kept : length after.nodes ≡ length m.nodes
  pub rows-kept : after.tris ≡ m.tris

pub set-done : (n0 : ℕ) (m : Mesh) (z : ℕ) (c : Correction) → (set_fault n0 m z c).number ≡ 0 → Corrected m z c (corrected m z c)
set-done n0 m z c e =
    let (law, b, a, l) = (set-0 n0 m z c).0 e in
    record {
      lawful = corrected-lawful m z c law b;
      total_kept = corrected-total m z c;
      node-set = corrected-here m z c l;
      others-kept = corrected-other m z c;
      count_kept = corrected-count m z c;
      rows-kept = sym (corrected-places m z c).rows_same;
    }
