-- The number that refuses a mesh is the lowest of 3 to 7 that applies, and 0 exactly for lawful meshes; 10 is given exactly for
-- labellings that are not compatible. Assumes nothing.
use Rattle.std.specs.Prelude.{Bool, true, false, not, ◌&&◌, ◌||◌, List, [], ◌∷◌, ◌↔◌, ◌≡◌, refl, ℕ, zero, suc, ◌≤◌, ◌<◌, pos, ◌<ℤ◌, length, Option, Some, None, is_some}
use Rattle.std.proofs.Common.{sym, subst, ap, ◌∙◌, arith}
use Rattle.std.proofs.Math.Path.{subst⁻¹}
use Rattle.std.proofs.Math.Decide.{ℕ_discrete}
use Rattle.std.proofs.lemmas.Bool.{not-false}
use Rattle.lists.specs.Lists.{count, joined, where_first, All, nil, cons}
use Rattle.lists.specs.ListsLaw.{clash, All-imp, All-get_or, any_none, where-none}
use Rattle.lists.specs.SearchLaw.{lowest-below, lowest-true}
use Rattle.lists.specs.ByNumberLaw.{where-lowest}
use Rattle.meaning.specs.declared.Tri.{Tri}
use Rattle.meaning.specs.Fault.{Fault}
use Rattle.meaning.specs.Mesh.{Mesh, Arrow, tri, arrows, base, origin, same_arrow, same_edge, holds_node, holds_edge, twice_area}
use Rattle.meaning.specs.Lawful.{NodeInRange, Named, Lawful, Compatible, Applies, out_of_range, misnames, occurs-twice, not-above, in-none, LowestOf, Lowest, row_of, clashes, first_outside, first_misnamed, first_repeat, first_flat, first_unused, first_clash, fault, or_later, from4, fault_of, refusal, compatible}
use Rattle.laws.specs.Edges.{same_edge-eq, same_edge-refl}
use Rattle.laws.specs.Faults.{first-3, first-4, first-5, first-6, first-7, none-3, none-4, none-5, none-6, none-7, repeat-twice}

-- ---- the chain, whatever applies

module _ (A : ℕ → Type 0) where
  -- k is the lowest number from lo upward that applies, or 0
  pub record LowestFrom (lo k : ℕ) : Type 0 where
    pub applies : 0 < k → A k
    pub no_lower : (j : ℕ) → lo ≤ j → A j → (0 < k) × (k ≤ j)

  pub link : (k : ℕ) (f : Option ℕ) (rest : Fault) → 0 < k → ((i : ℕ) → f ≡ Some i → A k) → (f ≡ None → (¬ A k) × LowestFrom (suc k) rest.number) →
      LowestFrom k (or_later k f rest).number
  link k (Some i) rest pos-k yes-f no-f = record { applies = λ h. yes-f i refl; no_lower = λ j l a. (pos-k, l) }
  link k None rest pos-k yes-f no-f = record { applies = (no-f refl).1.applies; no_lower = λ j l a. which j l a (ℕ_discrete k j) }
    where
      which : (j : ℕ) → k ≤ j → A j → Dec (k ≡ j) → (0 < rest.number) × (rest.number ≤ j)
      which j l a (yes q) = absurd ((no-f refl).0 (subst⁻¹ A q a))
      which j l a (no q) = (no-f refl).1.no_lower j (omega arith) a

  -- one number is the lowest
  pub lowest-one : (j k : ℕ) → LowestOf A j → LowestOf A k → j ≡ k
  lowest-one zero zero a b = refl
  lowest-one zero (suc k) a b = absurd (omega (arith, a.no_lower (suc k) (b.applies (omega arith))))
  lowest-one (suc j) zero a b = absurd (omega (arith, b.no_lower (suc j) (a.applies (omega arith))))
  lowest-one (suc j) (suc k) a b = omega (arith, a.no_lower (suc k) (b.applies (omega arith)), b.no_lower (suc j) (a.applies (omega arith)))

pub at-least-3 : {m : Mesh} {j : ℕ} → Applies m j → 3 ≤ j
at-least-3 (out_of_range k l f) = omega arith
at-least-3 (misnames i l f) = omega arith
at-least-3 (occurs-twice e h) = omega arith
at-least-3 (not-above i l f) = omega arith
at-least-3 (in-none z l f) = omega arith

pub at-most-7 : {m : Mesh} {j : ℕ} → Applies m j → j ≤ 7
at-most-7 (out_of_range k l f) = omega arith
at-most-7 (misnames i l f) = omega arith
at-most-7 (occurs-twice e h) = omega arith
at-most-7 (not-above i l f) = omega arith
at-most-7 (in-none z l f) = omega arith

-- ---- what is found applies

module _ (m : Mesh) where
  pub found-3 : (i : ℕ) → first_outside m ≡ Some i → Applies m 3
  found-3 i e = let h = first-3 m i e in out_of_range i h.below h.at-fault

  found-4 : (i : ℕ) → first_misnamed m ≡ Some i → Applies m 4
  found-4 i e = let h = first-4 m i e in misnames i h.below h.at-fault

  found-5 : (i : ℕ) → first_repeat m ≡ Some i → Applies m 5
  found-5 i e = let h = first-5 m i e in occurs-twice h.at-fault.edge (repeat-twice m.tris i h.below h.at-fault)

  found-6 : (i : ℕ) → first_flat m ≡ Some i → Applies m 6
  found-6 i e = let h = first-6 m i e in not-above i h.below h.at-fault

  found-7 : (i : ℕ) → first_unused m ≡ Some i → Applies m 7
  found-7 i e = let h = first-7 m i e in in-none i h.below h.at-fault

-- ---- where a fact holds, its number does not apply

module _ {m : Mesh} where
  pub not-3 : All NodeInRange m.nodes → ¬ Applies m 3
  not-3 h (out_of_range k l f) = f (All-get_or h k origin l)

  not-4 : All (Named (length m.nodes)) m.tris → ¬ Applies m 4
  not-4 h (misnames i l f) = f (All-get_or h i (tri 0 0 0) l)

  not-5 : ((e : Arrow) → count (same_arrow e) (joined arrows m.tris) ≤ 1) → ¬ Applies m 5
  not-5 h (occurs-twice e k) = omega (arith, h e)

  not-6 : All (λ t. pos 0 <ℤ twice_area m t) m.tris → ¬ Applies m 6
  not-6 h (not-above i l f) = f (All-get_or h i (tri 0 0 0) l)

  not-7 : ((z : ℕ) → z < length m.nodes → 1 ≤ count (holds_node z) m.tris) → ¬ Applies m 7
  not-7 h (in-none z l f) = omega (arith, h z l)

none-from-8 : (m : Mesh) → LowestFrom (Applies m) 8 0
none-from-8 m = record { applies = λ h. absurd (omega arith); no_lower = λ j l a. absurd (omega (arith, at-most-7 a)) }

-- 4 to 7, where what applies of them is what applies to the mesh
pub links-4-7 : (m : Mesh) (A : ℕ → Type 0) → ((k : ℕ) → Applies m k → A k) → ((k : ℕ) → 4 ≤ k → k ≤ 7 → A k → Applies m k) → (rest : Fault) →
    LowestFrom A 8 rest.number → LowestFrom A 4 (from4 m rest).number
links-4-7 m A there back rest later =
    link A 4 (first_misnamed m) _ (omega arith) (λ i e. there 4 (found-4 m i e)) λ e4. (
      (λ a. not-4 (none-4 m e4) (back 4 (omega arith) (omega arith) a)),
      link A 5 (first_repeat m) _ (omega arith) (λ i e. there 5 (found-5 m i e)) λ e5. (
        (λ a. not-5 (none-5 m (none-4 m e4) e5) (back 5 (omega arith) (omega arith) a)),
        link A 6 (first_flat m) _ (omega arith) (λ i e. there 6 (found-6 m i e)) λ e6. (
          (λ a. not-6 (none-6 m e6) (back 6 (omega arith) (omega arith) a)),
          link A 7 (first_unused m) _ (omega arith) (λ i e. there 7 (found-7 m i e)) λ e7. ((λ a. not-7 (none-7 m e7) (back 7 (omega arith) (omega arith) a)), later),
        ),
      ),
    )

-- ---- the theorems

-- THE NUMBER IS THE LOWEST THAT APPLIES.
pub refusal-lowest : (m : Mesh) → Lowest m (refusal m)
unfolding refusal fault_of
refusal-lowest m = record { applies = whole.applies; no_lower = λ j a. whole.no_lower j (at-least-3 a) a }
  where
    whole : LowestFrom (Applies m) 3 (fault_of m).number
    whole =
        link (Applies m) 3 (first_outside m) _ (omega arith) (found-3 m) λ e3. (
          not-3 (none-3 m e3),
          links-4-7 m (Applies m) (λ k a. a) (λ k l h a. a) (fault 0 0) (none-from-8 m),
        )

-- EACH NUMBER IS GIVEN EXACTLY WHEN 01'S TABLE SAYS: 3 to 7 when it is the lowest that applies, 0 when none does.
pub refusal-exact : (m : Mesh) (k : ℕ) → (refusal m ≡ k) ↔ Lowest m k
refusal-exact m k = (λ e. subst (Lowest m) e (refusal-lowest m), λ l. lowest-one (Applies m) (refusal m) k (refusal-lowest m) l)

pub applies-to-7 : (m : Mesh) (k : ℕ) → refusal m ≡ k → k ≤ 7
applies-to-7 m zero e = omega arith
applies-to-7 m (suc k) e = at-most-7 (((refusal-exact m (suc k)).0 e).applies (omega arith))

pub applies-from-3 : (m : Mesh) (k : ℕ) → refusal m ≡ k → 0 < k → 3 ≤ k
applies-from-3 m k e h = at-least-3 (((refusal-exact m k).0 e).applies h)

lawful-none : {m : Mesh} → Lawful m → Lowest m 0
lawful-none {m} law = record { applies = λ h. absurd (omega arith); no_lower = λ j a. absurd (go a) }
  where
    go : {j : ℕ} → Applies m j → ⊥
    go (out_of_range k l f) = f (All-get_or law.range k origin l)
    go (misnames i l f) = f (All-get_or law.named i (tri 0 0 0) l)
    go (occurs-twice e k) = omega (arith, law.no_twice e)
    go (not-above i l f) = f (All-get_or law.positive i (tri 0 0 0) l)
    go (in-none z l f) = omega (arith, law.used z l)

pub lawful-refusal : (m : Mesh) → Lawful m → refusal m ≡ 0
lawful-refusal m law = lowest-one (Applies m) (refusal m) 0 (refusal-lowest m) (lawful-none law)

none_yet : (k : ℕ) (f : Option ℕ) (rest : Fault) → 0 < k → (or_later k f rest).number ≡ 0 → (f ≡ None) × (rest.number ≡ 0)
none_yet k (Some i) rest h e = absurd (omega arith)
none_yet k None rest h e = (refl, e)

pub refusal-lawful : (m : Mesh) → refusal m ≡ 0 → Lawful m
unfolding refusal fault_of
refusal-lawful m e =
    let e3 = none_yet 3 (first_outside m) _ (omega arith) e in
    let e4 = none_yet 4 (first_misnamed m) _ (omega arith) e3.1 in
    let e5 = none_yet 5 (first_repeat m) _ (omega arith) e4.1 in
    let e6 = none_yet 6 (first_flat m) _ (omega arith) e5.1 in
    let e7 = none_yet 7 (first_unused m) _ (omega arith) e6.1 in
    record {
      range = none-3 m e3.0;
      named = none-4 m e4.0;
      no_twice = none-5 m (none-4 m e4.0) e5.0;
      positive = none-6 m e6.0;
      used = none-7 m e7.0;
    }

-- 0 EXACTLY FOR LAWFUL MESHES.
pub lawful-exact : (m : Mesh) → (refusal m ≡ 0) ↔ Lawful m
lawful-exact m = (refusal-lawful m, lawful-refusal m)

-- ---- 10

no-clash : (ts : List Tri) (t : Tri) → clashes ts t ≡ false → All (λ u. holds_edge (base t) u ≡ true → base t ≡ base u) ts
no-clash ts t e = All-imp one (any_none (λ u. holds_edge (base t) u && not (same_edge (base t) (base u))) ts e)
  where
    one : (u : Tri) → holds_edge (base t) u && not (same_edge (base t) (base u)) ≡ false → holds_edge (base t) u ≡ true → base t ≡ base u
    one u e h = same_edge-eq (base t) (base u) (not-false (same_edge (base t) (base u)) (rw h at e))

clash-free : (ts : List Tri) (t : Tri) → All (λ u. holds_edge (base t) u ≡ true → base t ≡ base u) ts → clashes ts t ≡ false
clash-free [] t nil = refl
clash-free (u ∷ us) t (cons p ps) = go (holds_edge (base t) u) refl (clash-free us t ps)
  where
    go : (b : Bool) → holds_edge (base t) u ≡ b → clashes us t ≡ false → (b && not (same_edge (base t) (base u))) || clashes us t ≡ false
    go true q f = let s : same_edge (base t) (base u) ≡ true = subst (λ d. same_edge (base t) d ≡ true) (p q) (same_edge-refl (base t)) in rw (s, f)
    go false q f = f

-- THE LABELLING IS COMPATIBLE exactly if the search for a clash finds none.
pub compatible-exact : (m : Mesh) → (compatible m ≡ true) ↔ Compatible m
unfolding compatible first_clash
compatible-exact m = (λ e. All-imp (no-clash m.tris) (where-none (clashes m.tris) m.tris (none (where_first (clashes m.tris) m.tris) e)), λ h. ap not (nowhere-found h))
  where
    none : (f : Option ℕ) → not (is_some f) ≡ true → f ≡ None
    none (Some i) e = clash (sym e)
    none None e = refl

    nowhere-found : Compatible m → is_some (where_first (clashes m.tris) m.tris) ≡ false
    nowhere-found h = go (where_first (clashes m.tris) m.tris) refl
      where
        go : (f : Option ℕ) → where_first (clashes m.tris) m.tris ≡ f → is_some f ≡ false
        go (Some i) q =
            let e = sym (where-lowest (clashes m.tris) m.tris (tri 0 0 0)) ∙ q in
            clash (sym (lowest-true _ _ i e) ∙ clash-free m.tris (row_of m.tris i) (All-get_or h i (tri 0 0 0) (lowest-below _ _ i e)))
        go None q = refl
