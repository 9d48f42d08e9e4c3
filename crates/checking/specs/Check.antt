-- The base check: after 1 to 7 come 11, 12 and 10. Assumes nothing.
use Rattle.std.specs.Prelude.{◌≡◌, refl, Bool, true, false, not, List, [], ℕ, ◌+◌, ◌*◌, ◌/◌, ◌≤◌, ◌<◌, eqb, ℤ, length, replicate, Option, is_some, Result, Ok, Err}
use Rattle.std.specs.Result.{result_and}
use Rattle.std.proofs.Common.{sym, ap, ap₂, ◌∙◌, arith}
use Rattle.std.proofs.Math.Bool.{not-not}
use Rattle.std.proofs.lemmas.List.{length-replicate}
use Rattle.lists.specs.Lists.{cases}
use Rattle.lists.specs.Search.{lowest, items}
use Rattle.meaning.specs.declared.Answer.{Answer}
use Rattle.meaning.specs.Fault.{Fault}
use Rattle.meaning.specs.Mesh.{Mesh}
use Rattle.meaning.specs.Lawful.{Lawful, fault, refusal, compatible, first_clash}
use Rattle.meaning.specs.Tables.{Given, given, outcome, answer, place_at, row_at, mesh_of}
use Rattle.meaning.specs.Proper.{uncrowded, disjoint}
use Rattle.meaning.specs.Calls.{culprit_of, unless, base_no, check_no, sizes_fit, untouched, check_out}
use Rattle.laws.specs.Lawful.{lawful-refusal}
use Rattle.laws.specs.Meshes.{Standing, mesh_at, row-stands}
use Rattle.neighbours.specs.Ready.{Ready, ready-sized}
use Rattle.refusals.specs.declared.Refusal.{Refusal}
use Rattle.refusals.specs.Refusals.{verdict as judged, answer_in}
use Rattle.border.specs.Cancel.{border}
use Rattle.border.specs.Clear.{clear}
use Rattle.checking.specs.Clash.{clash_at}
use Rattle.checking.specs.ClashLaw.{clash-is}
use Rattle.checking.specs.Outlined.{outlined}
use Rattle.sweep.specs.Severity.{severity}
use Rattle.judging.specs.Judge.{mesh_in, early, Admitted}
use Rattle.judging.specs.Leaving.{or_late, first_of, verdict, sized_same, zeroed, call-out}

-- as a call that wants no marks and is given none
unfoldable pub check_fault : Given → Fault
check_fault g = or_late (early g 0 0 []) (base_no (mesh_of g))

-- ---- 11, 12 and 10 of a lawful mesh

-- the number, from the severity of its rows and from whether a labelling clashes
unfoldable pub number_of : ℕ → Bool → ℕ
number_of r clashing = cases (eqb r 2) 11 (cases (eqb r 1) 12 (cases clashing 10 0))

number_is : (m : Mesh) → number_of (severity m) (not (compatible m)) ≡ base_no m
unfolding number_of severity
number_is m = go (uncrowded m) (disjoint m) (compatible m)
  where
    go : (a b c : Bool) → cases (eqb (cases a (cases b 0 1) 2) 2) 11 (cases (eqb (cases a (cases b 0 1) 2) 1) 12 (cases (not c) 10 0)) ≡ unless a 11 (unless b 12 (unless c 10 0))
    go true true true = refl
    go true true false = refl
    go true false true = refl
    go true false false = refl
    go false true true = refl
    go false true false = refl
    go false false true = refl
    go false false false = refl

-- ---- how grave it is of the rows

module _ (nodes : List ℤ) (rows s : List ℕ) (n t : ℕ) (A : Admitted nodes rows s [] 0 n t) where
  law-at : Lawful (mesh_at nodes rows n t)
  unfolding mesh_at
  law-at = A.law

  -- what asking for the border needs
  pub border-needs : Ready s (length nodes / 4) rows t × ((i : ℕ) → i < t → Standing nodes (row_at rows i))
  border-needs = (A.ready, row-stands nodes rows n t law-at A.nodes-fit)

  -- the border is clear
  pub border-says : (y : Bool) → (y ≡ true → clear (place_at nodes) (border (items (row_at rows) 0 t)) ≡ true) → y ≡ true → 0 ≡ severity (mesh_in nodes rows n t)
  unfolding mesh_at
  border-says = outlined nodes rows n t law-at

  -- what comparing the rows needs, where the index stood in scratch and that is cleared
  pub severity-needs : (s' s'' : List ℕ) → Ready s' (length nodes / 4) rows t → s'' ≡ replicate (length s') 0 →
      Lawful (mesh_at nodes rows n t) × ((4 * n ≤ length nodes) × ((3 * t ≤ length rows) × ((t ≤ 262_144) × ((n + 3 * t ≤ length s'') × (s'' ≡ replicate (length s'') 0)))))
  severity-needs s' s'' r e =
      let z = ready-sized s' rows (length nodes / 4) t r in
      let l : length s'' ≡ length s' = ap length e ∙ length-replicate (length s') 0 in
      (law-at, (A.nodes-fit, (A.rows_fit, (omega (arith, A.rows_fit, z.few-rows), (omega (arith, A.nodes-fit, A.rows_fit, z.scratch), e ∙ ap (λ k. replicate k 0) (sym l))))))

pub severity-same : (nodes : List ℤ) (rows : List ℕ) (n t r : ℕ) → r ≡ severity (mesh_at nodes rows n t) → r ≡ severity (mesh_in nodes rows n t)
unfolding mesh_at
severity-same nodes rows n t r e = e

-- c is what the search for a clash gave, y whether it found one, r the severity
pub late-number : (nodes : List ℤ) (rows : List ℕ) (n t : ℕ) → Lawful (mesh_in nodes rows n t) → (c : Option ℕ) (y : Bool) (r k : ℕ) → c ≡ lowest (clash_at rows t) 0 t → y ≡ is_some c → r ≡ severity (mesh_in nodes rows n t) →
    k ≡ number_of r y → k ≡ base_no (mesh_in nodes rows n t)
unfolding compatible refusal mesh_of
late-number nodes rows n t law c y r k d q e h =
    let m = mesh_in nodes rows n t in
    let i : lowest (clash_at rows t) 0 t ≡ first_clash m = clash-is nodes rows [] n t (lawful-refusal m law) in
    h ∙ ap₂ number_of e (q ∙ ap is_some (d ∙ i) ∙ sym (not-not (is_some (first_clash m)))) ∙ number_is m

-- ---- after 1 to 7

module _ (nodes : List ℤ) (rows s : List ℕ) (n t : ℕ) (f : Fault) (e : f ≡ early (given nodes rows s n t) 0 0 []) where
  pub check-early : (f.number ≡ 0 → ⊥) → f ≡ check_fault (given nodes rows s n t)
  unfolding check_fault
  check-early o = rw (← e) (first_of f _ o)

  pub check-late : (f.number ≡ 0) → (k : ℕ) → k ≡ base_no (mesh_in nodes rows n t) → fault k 0 ≡ check_fault (given nodes rows s n t)
  unfolding check_fault mesh_of
  check-late z k h = rw (← e, z, h)

-- ---- what the call leaves

check-untouched : (g : Given) → untouched g (check_fault g).number (check_fault g).at ≡ check_out g
unfolding check_out check_no check_fault
check-untouched g = ap (λ (f : Fault). untouched g f.number f.at) (sym (verdict g 0 0 [] (base_no (mesh_of g)))) ∙ go (sizes_fit g 0)
  where
    blamed : ℕ
    blamed = culprit_of (mesh_of g) (check_no (mesh_of g))

    go : (b : Bool) → untouched g (cases b (fault (check_no (mesh_of g)) blamed) (fault 1 0)).number (cases b (fault (check_no (mesh_of g)) blamed) (fault 1 0)).at ≡ cases b (untouched g (check_no (mesh_of g)) blamed) (untouched g 1 0)
    go true = refl
    go false = refl

counted : {A : Type 0} (j : Result A Refusal) (n t : ℕ) → answer_in (result_and j (Ok (record { n = n; t = t }))) n t ≡ answer (judged j).number n t 0 (judged j).at
counted (Ok a) n t = refl
counted (Err r) n t = refl

pub checked_call : (nodes : List ℤ) (rows s s₁ s₂ : List ℕ) (n t len : ℕ) (f : Fault) (r : Answer) → s₁ ≡ replicate (length s) 0 → f ≡ check_fault (given nodes rows s₁ n t) →
    s₂ ≡ replicate len 0 → len ≡ length s₁ → r ≡ answer f.number n t 0 f.at → outcome r nodes rows s₂ ≡ check_out (given nodes rows s n t)
unfolding check_out mesh_of
checked_call nodes rows s s₁ s₂ n t len f r p e d l h =
    call-out s s₁ p (λ x. check_out (given nodes rows x n t)) (λ x x' l. sized_same nodes rows x x' 0 n t l _ _ (rw l)) r nodes rows s₂ len
    (rw (h, e) (ap (outcome _ nodes rows) (zeroed s s₁ p) ∙ check-untouched (given nodes rows s₁ n t))) d l

-- the same of what stands in the way, handed on as the call hands it on
pub handed_call : {A : Type 0} (nodes : List ℤ) (rows s s₁ s₂ : List ℕ) (n t len : ℕ) (j : Result A Refusal) (r : Answer) → s₁ ≡ replicate (length s) 0 →
    judged j ≡ check_fault (given nodes rows s₁ n t) → s₂ ≡ replicate len 0 → len ≡ length s₁ → r ≡ answer_in (result_and j (Ok (record { n = n; t = t }))) n t →
    outcome r nodes rows s₂ ≡ check_out (given nodes rows s n t)
handed_call nodes rows s s₁ s₂ n t len j r p e d l h = checked_call nodes rows s s₁ s₂ n t len (judged j) r p e d l (h ∙ counted j n t)
