-- W6 AFTER A RESTORE, OF THE CALLS: "After a restore, under demand 3's premises, answers depend on the base and the point alone, whatever the last job
-- marked or set." Two runs of calls from one base, a restore at the end of each, the same question: the same answer. Assumes nothing.
use Rattle.std.proofs.Math.Bool.{true}
use Rattle.std.specs.Prelude.{List, ◌≡◌, refl, ℕ, ◌+◌, ◌*◌, ◌≤◌, pos, length}
use Rattle.std.proofs.Math.Path.{sym, ap}
use Rattle.std.proofs.Common.{◌∙◌, arith}
use borrow.Author.Tests.{le-leb}
use Rattle.lists.specs.Lists.{cases}
use Rattle.meaning.specs.declared.Place.{Place}
use Rattle.meaning.specs.declared.Told.{Told}
use Rattle.meaning.specs.Mesh.{Mesh, correction}
use Rattle.meaning.specs.Tables.{Given, Outcome, given, mesh_of, room_of}
use Rattle.meaning.specs.Calls.{sizes_fit, check_out, restore_out, told, asks, Heard, ask_out}
use Rattle.laws.specs.CallLaw.{Sizes, sizes-exact, sizes-again, Says, of-mesh, ask-leaves}
use Rattle.demands.specs.Demand2Calls.{check-call}
use Rattle.demands.specs.Demand3Calls.{Held, scratch-anew, after-restore, Ends}
use Rattle.demands.proofs.Demand3.{demand3-calls}

-- A run from the base in g₀: any calls, an accepted restore with the base's node count, then a question about P on what it left, with an n0 that is
-- not above that count and scratch enough, and what the question was told.
pub record AskedAfter (g₀ : Given) (P : Place) (r : Told) : Type 0 where
  pub left : Given
  pub calls : Held g₀ left
  pub restored : Outcome
  pub by-restore : restored ≡ restore_out left g₀.n
  pub accepted : restored.answer.number ≡ 0
  pub scratch : List ℕ
  pub scratch-enough : 4 * ((room_of g₀).nodes + (room_of g₀).rows) ≤ length scratch
  pub n0 : ℕ
  pub n0-within : n0 ≤ g₀.n
  pub question : Heard
  pub by-question : question ≡ ask_out (given restored.nodes restored.rows scratch restored.answer.n restored.answer.t) n0 P
  pub was-told : question.told ≡ r

-- another n0, not above the count
n0-anew : (g : Given) {n0 : ℕ} (m0 : ℕ) → Sizes g n0 → m0 ≤ g.n → sizes_fit g m0 ≡ true
n0-anew g m0 s h = (sizes-exact g m0).1 (sizes-again s refl refl (omega (arith, s.n-fits)) (omega (arith, s.t-fits)) h s.scratch-fits)

module _ (g₀ : Given) (c : Outcome) (by-check : c ≡ check_out g₀) (admitted : c.answer.number ≡ 0) where
  -- AFTER A RESTORE THE ANSWER IS THE BASE'S: of the base's mesh and the point alone.
  pub asked-of-base : {P : Place} {r : Told} → AskedAfter g₀ P r → r ≡ asks (mesh_of g₀) P
  unfolding mesh_of
  asked-of-base {P} a =
      let o : Outcome = a.restored in
      let asked : Given = given o.nodes o.rows a.scratch o.answer.n o.answer.t in
      let found : Ends g₀ a.left = demand3-calls g₀ c by-check admitted a.calls in
      let held : Held g₀ asked = scratch-anew (after-restore a.calls o a.by-restore a.accepted) a.scratch in
      let s : Sizes asked g₀.n = (sizes-exact asked g₀.n).0 ((demand3-calls g₀ c by-check admitted held).scratch-alone ∙ le-leb _ _ a.scratch-enough) in
      let fits : sizes_fit asked a.n0 ≡ true = n0-anew asked a.n0 s (omega (arith, s.n0-fits, a.n0-within)) in
      sym a.was-told ∙ ap (λ (h : Heard). h.told) a.by-question ∙ (ask-leaves asked a.n0 P).told_is
      ∙ ap (λ b. cases b (asks (mesh_of asked) P) (told 1 0 (correction (pos 0) (pos 0)))) fits ∙ ap (λ (m : Mesh). asks m P) (found.mesh-again o a.by-restore a.accepted)

  -- TWO RUNS FROM ONE BASE, WHATEVER WAS MARKED, SET OR ASKED IN EACH: THE SAME QUESTION, THE SAME ANSWER.
  pub asked-same : {P : Place} {r r' : Told} → AskedAfter g₀ P r → AskedAfter g₀ P r' → r ≡ r'
  asked-same a b = asked-of-base a ∙ sym (asked-of-base b)

  -- which is what was told of the base before any of them
  pub asked-before : {P : Place} {r : Told} → AskedAfter g₀ P r → (h : Heard) → h ≡ ask_out g₀ g₀.n P → r ≡ h.told
  asked-before {P} a h e =
      let fits : sizes_fit g₀ g₀.n ≡ true = base-fits in
      asked-of-base a ∙ sym (ap (λ (x : Heard). x.told) e ∙ (ask-leaves g₀ g₀.n P).told_is ∙ ap (λ b. cases b (asks (mesh_of g₀) P) (told 1 0 (correction (pos 0) (pos 0)))) fits)
    where
      sized : {Of : ℕ → Type 0} → Says g₀ 0 Of 0 → Sizes g₀ 0
      sized (of-mesh k s h) = s

      base-fits : sizes_fit g₀ g₀.n ≡ true
      base-fits = n0-anew g₀ g₀.n (sized (((check-call g₀ c by-check).answered.says-exactly 0).0 admitted)) (omega arith)
