-- A search by a test that says yes exactly of the numbers with a property: it finds the lowest of them, and nothing exactly if there is none.
-- Assumes nothing.
use Rattle.std.specs.Prelude.{Bool, true, false, not, ◌↔◌, ◌≡◌, refl, ℕ, ◌<◌, Option, Some, None, is_some}
use Rattle.std.proofs.Common.{sym, ap, ◌∙◌}
use Rattle.std.proofs.lemmas.Bool.{not-true, not-false}
use Rattle.lists.specs.ListsLaw.{clash}
use Rattle.lists.specs.Search.{lowest}
use Rattle.lists.specs.SearchLaw.{lowest-nothing}
use Rattle.meaning.specs.Lawful.{First}
use Rattle.laws.specs.Exact.{refuted}
use Rattle.laws.specs.Faults.{first-at}
use Rattle.laws.specs.Culprit.{first_one}

module _ {P : ℕ → Type 0} (f : ℕ → Bool) (end : ℕ) (exact : (j : ℕ) → j < end → (f j ≡ true) ↔ P j) where
  without : (j : ℕ) → j < end → f j ≡ false → ¬ P j
  without j h e p = clash (sym ((exact j h).1 p) ∙ e)

  found_first : (i : ℕ) → lowest f 0 end ≡ Some i → First end P (λ j. ¬ P j) i
  found_first = first-at f end (λ j h. (exact j h).0) without

  none_found : lowest f 0 end ≡ None → (j : ℕ) → j < end → ¬ P j
  none_found e j h = without j h (lowest-nothing f end j e h)

  -- THE LOWEST
  pub lowest-exact : (i : ℕ) → (lowest f 0 end ≡ Some i) ↔ First end P (λ j. ¬ P j) i
  lowest-exact i = (found_first i, λ l. go l (lowest f 0 end) refl)
    where
      go : First end P (λ j. ¬ P j) i → (o : Option ℕ) → lowest f 0 end ≡ o → lowest f 0 end ≡ Some i
      go l (Some j) e = e ∙ ap Some (first_one (λ k x y. y x) (found_first j e) l)
      go l None e = absurd (none_found e i l.below l.at-fault)

  pub found-exact : (is_some (lowest f 0 end) ≡ true) ↔ ((j : ℕ) × (j < end) × P j)
  found-exact = (there (lowest f 0 end) refl, λ r. back r (lowest f 0 end) refl)
    where
      there : (o : Option ℕ) → lowest f 0 end ≡ o → is_some o ≡ true → (j : ℕ) × (j < end) × P j
      there (Some j) e t = let l = found_first j e in (j, l.below, l.at-fault)
      there None e t = clash (sym t)

      back : (j : ℕ) × (j < end) × P j → (o : Option ℕ) → lowest f 0 end ≡ o → is_some o ≡ true
      back r (Some j) e = refl
      back r None e = absurd (none_found e r.0 r.1 r.2)

  pub none-exact : (not (is_some (lowest f 0 end)) ≡ true) ↔ ((j : ℕ) → j < end → ¬ P j)
  none-exact = (
    λ t j h p. clash (sym (found-exact.1 (j, h, p)) ∙ not-true _ t),
    λ n. ap not (refuted (is_some (lowest f 0 end)) (λ t. (let r = found-exact.0 t in n r.0 r.1 r.2))),
  )

  pub some-exact : (not (is_some (lowest f 0 end)) ≡ false) ↔ ((j : ℕ) × (j < end) × P j)
  some-exact = (λ t. found-exact.0 (not-false _ t), λ r. ap not (found-exact.1 r))
