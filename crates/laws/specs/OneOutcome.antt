-- A contract that equates the answer and every table after a call with one function's value admits a single outcome: two runs that were
-- given the same show the same number, counts, passes, culprit and tables; W6: and the same correction; W8: and the same new field. Assumes nothing.
use Rattle.std.specs.Prelude.{List, ◌≡◌, ℕ, ℤ}
use Rattle.std.proofs.Common.{sym, ap, ◌∙◌}
use Rattle.meaning.specs.declared.Answer.{Answer}
use Rattle.meaning.specs.Tables.{Given, Outcome, outcome, answer}
use Rattle.meaning.specs.Split.{Way}
use Rattle.meaning.specs.declared.Correction.{Correction}
use Rattle.meaning.specs.declared.Place.{Place}
use Rattle.meaning.specs.declared.Told.{Told}
use Rattle.meaning.specs.Calls.{check_out, refine_out, TintedOut, tinted, red_out, coarsen_out, restore_out, set_out, told_as, Heard, heard, ask_out}

-- two runs of a call that was given the same, and that meets its contract in both
pub one-outcome : {given_to : Outcome} {a b : Answer} {ns ns' : List ℤ} {rs rs' s s' : List ℕ} →
    outcome a ns rs s ≡ given_to → outcome b ns' rs' s' ≡ given_to → (a ≡ b) × (ns ≡ ns') × (rs ≡ rs') × (s ≡ s')
one-outcome p q =
    let e = p ∙ sym q in
    (ap (λ (o : Outcome). o.answer) e, ap (λ (o : Outcome). o.nodes) e, ap (λ (o : Outcome). o.rows) e, ap (λ (o : Outcome). o.scratch) e)

-- ---- the public calls

pub check-one : (g : Given) {a b : Answer} {ns ns' : List ℤ} {rs rs' s s' : List ℕ} →
    outcome a ns rs s ≡ check_out g → outcome b ns' rs' s' ≡ check_out g → (a ≡ b) × (ns ≡ ns') × (rs ≡ rs') × (s ≡ s')
check-one g = one-outcome

-- by whatever way
pub refine-one : (w : Way) (g : Given) (n0 : ℕ) (marks : List ℕ) {a b : Answer} {ns ns' : List ℤ} {rs rs' s s' : List ℕ} →
    outcome a ns rs s ≡ refine_out w g n0 marks → outcome b ns' rs' s' ≡ refine_out w g n0 marks → (a ≡ b) × (ns ≡ ns') × (rs ≡ rs') × (s ≡ s')
refine-one w g n0 marks = one-outcome

pub coarsen-one : (g : Given) (n0 : ℕ) (marks : List ℕ) {a b : Answer} {ns ns' : List ℤ} {rs rs' s s' : List ℕ} →
    outcome a ns rs s ≡ coarsen_out g n0 marks → outcome b ns' rs' s' ≡ coarsen_out g n0 marks → (a ≡ b) × (ns ≡ ns') × (rs ≡ rs') × (s ≡ s')
coarsen-one g n0 marks = one-outcome

pub restore-one : (g : Given) (n0 : ℕ) {a b : Answer} {ns ns' : List ℤ} {rs rs' s s' : List ℕ} →
    outcome a ns rs s ≡ restore_out g n0 → outcome b ns' rs' s' ≡ restore_out g n0 → (a ≡ b) × (ns ≡ ns') × (rs ≡ rs') × (s ≡ s')
restore-one g n0 = one-outcome

pub set-one : (g : Given) (n0 z : ℕ) (d : Correction) {a b : Answer} {ns ns' : List ℤ} {rs rs' s s' : List ℕ} →
    outcome a ns rs s ≡ set_out g n0 z d → outcome b ns' rs' s' ≡ set_out g n0 z d → (a ≡ b) × (ns ≡ ns') × (rs ≡ rs') × (s ≡ s')
set-one g n0 z d = one-outcome

-- W8: the outcome and the new field
pub red-one : (g : Given) (n0 : ℕ) (marks : List ℕ) {a b : Answer} {k k' : ℕ} {ns ns' : List ℤ} {rs rs' s s' : List ℕ} →
    tinted (outcome a ns rs s) k ≡ red_out g n0 marks → tinted (outcome b ns' rs' s') k' ≡ red_out g n0 marks → (a ≡ b) × (k ≡ k') × (ns ≡ ns') × (rs ≡ rs') × (s ≡ s')
red-one g n0 marks p q =
    let (a, ns, rs, s) = one-outcome (ap (λ (x : TintedOut). x.outcome) p) (ap (λ (x : TintedOut). x.outcome) q) in
    (a, ap (λ (x : TintedOut). x.red) (p ∙ sym q), ns, rs, s)

-- W6: what a question is told, and the tables
heard-one : {given_to : Heard} {a b : Told} {ns ns' : List ℤ} {rs rs' s s' : List ℕ} → heard a ns rs s ≡ given_to → heard b ns' rs' s' ≡ given_to →
    (a ≡ b) × (ns ≡ ns') × (rs ≡ rs') × (s ≡ s')
heard-one p q =
    let e = p ∙ sym q in
    (ap (λ (o : Heard). o.told) e, ap (λ (o : Heard). o.nodes) e, ap (λ (o : Heard). o.rows) e, ap (λ (o : Heard). o.scratch) e)

pub ask-one : (g : Given) (n0 : ℕ) (P : Place) {a b : Told} {ns ns' : List ℤ} {rs rs' s s' : List ℕ} →
    heard a ns rs s ≡ ask_out g n0 P → heard b ns' rs' s' ≡ ask_out g n0 P → (a ≡ b) × (ns ≡ ns') × (rs ≡ rs') × (s ≡ s')
ask-one g n0 P = heard-one

-- ---- the exported calls, whose answers come apart: r is the number returned; n, t, p and c are what the references hold after the call

one_seen : {given_to : Outcome} {r r' n n' t t' p p' c c' : ℕ} {ns ns' : List ℤ} {rs rs' s s' : List ℕ} →
    outcome (answer r n t p c) ns rs s ≡ given_to → outcome (answer r' n' t' p' c') ns' rs' s' ≡ given_to →
    (r ≡ r') × (n ≡ n') × (t ≡ t') × (p ≡ p') × (c ≡ c') × (ns ≡ ns') × (rs ≡ rs') × (s ≡ s')
one_seen p q =
    let (e, ns, rs, s) = one-outcome p q in (
      ap (λ (a : Answer). a.number) e,
      ap (λ (a : Answer). a.n) e,
      ap (λ (a : Answer). a.t) e,
      ap (λ (a : Answer). a.passes) e,
      ap (λ (a : Answer). a.culprit) e,
      ns,
      rs,
      s,
    )

pub exported-check-one : (g : Given) {r r' c c' : ℕ} {ns ns' : List ℤ} {rs rs' s s' : List ℕ} →
    outcome (answer r g.n g.t 0 c) ns rs s ≡ check_out g → outcome (answer r' g.n g.t 0 c') ns' rs' s' ≡ check_out g →
    (r ≡ r') × (c ≡ c') × (ns ≡ ns') × (rs ≡ rs') × (s ≡ s')
exported-check-one g p q = let (r, n, t, k, c, ns, rs, s) = one_seen p q in (r, c, ns, rs, s)

pub exported-refine-one : (w : Way) (g : Given) (n0 : ℕ) (marks : List ℕ) {r r' n n' t t' c c' : ℕ} {ns ns' : List ℤ} {rs rs' s s' : List ℕ} →
    outcome (answer r n t 0 c) ns rs s ≡ refine_out w g n0 marks → outcome (answer r' n' t' 0 c') ns' rs' s' ≡ refine_out w g n0 marks →
    (r ≡ r') × (n ≡ n') × (t ≡ t') × (c ≡ c') × (ns ≡ ns') × (rs ≡ rs') × (s ≡ s')
exported-refine-one w g n0 marks p q = let (r, n, t, k, c, ns, rs, s) = one_seen p q in (r, n, t, c, ns, rs, s)

-- k is what the reference to the new field holds after the call
pub exported-red-one : (g : Given) (n0 : ℕ) (marks : List ℕ) {r r' n n' t t' k k' c c' : ℕ} {ns ns' : List ℤ} {rs rs' s s' : List ℕ} →
    tinted (outcome (answer r n t 0 c) ns rs s) k ≡ red_out g n0 marks → tinted (outcome (answer r' n' t' 0 c') ns' rs' s') k' ≡ red_out g n0 marks →
    (r ≡ r') × (n ≡ n') × (t ≡ t') × (k ≡ k') × (c ≡ c') × (ns ≡ ns') × (rs ≡ rs') × (s ≡ s')
exported-red-one g n0 marks p q =
    let (r, n, t, passes, c, ns, rs, s) = one_seen (ap (λ (x : TintedOut). x.outcome) p) (ap (λ (x : TintedOut). x.outcome) q) in
    (r, n, t, ap (λ (x : TintedOut). x.red) (p ∙ sym q), c, ns, rs, s)

pub exported-coarsen-one : (g : Given) (n0 : ℕ) (marks : List ℕ) {r r' n n' t t' c c' : ℕ} {ns ns' : List ℤ} {rs rs' s s' : List ℕ} →
    outcome (answer r n t 0 c) ns rs s ≡ coarsen_out g n0 marks → outcome (answer r' n' t' 0 c') ns' rs' s' ≡ coarsen_out g n0 marks →
    (r ≡ r') × (n ≡ n') × (t ≡ t') × (c ≡ c') × (ns ≡ ns') × (rs ≡ rs') × (s ≡ s')
exported-coarsen-one g n0 marks p q = let (r, n, t, k, c, ns, rs, s) = one_seen p q in (r, n, t, c, ns, rs, s)

pub exported-restore-one : (g : Given) (n0 : ℕ) {r r' n n' t t' p p' c c' : ℕ} {ns ns' : List ℤ} {rs rs' s s' : List ℕ} →
    outcome (answer r n t p c) ns rs s ≡ restore_out g n0 → outcome (answer r' n' t' p' c') ns' rs' s' ≡ restore_out g n0 →
    (r ≡ r') × (n ≡ n') × (t ≡ t') × (p ≡ p') × (c ≡ c') × (ns ≡ ns') × (rs ≡ rs') × (s ≡ s')
exported-restore-one g n0 = one_seen

pub exported-set-one : (g : Given) (n0 z : ℕ) (d : Correction) {r r' c c' : ℕ} {ns ns' : List ℤ} {rs rs' s s' : List ℕ} →
    outcome (answer r g.n g.t 0 c) ns rs s ≡ set_out g n0 z d → outcome (answer r' g.n g.t 0 c') ns' rs' s' ≡ set_out g n0 z d →
    (r ≡ r') × (c ≡ c') × (ns ≡ ns') × (rs ≡ rs') × (s ≡ s')
exported-set-one g n0 z d p q = let (r, n, t, k, c, ns, rs, s) = one_seen p q in (r, c, ns, rs, s)

-- x and y are what the references to dx and dy hold after the call
pub exported-ask-one : (g : Given) (n0 : ℕ) (P : Place) {r r' c c' : ℕ} {x x' y y' : ℤ} {ns ns' : List ℤ} {rs rs' s s' : List ℕ} →
    heard (told_as r x y c) ns rs s ≡ ask_out g n0 P →
    heard (told_as r' x' y' c') ns' rs' s' ≡ ask_out g n0 P →
    (r ≡ r') × (x ≡ x') × (y ≡ y') × (c ≡ c') × (ns ≡ ns') × (rs ≡ rs') × (s ≡ s')
exported-ask-one g n0 P p q =
    let (e, ns, rs, s) = heard-one p q in
    (ap (λ (a : Told). a.number) e, ap (λ (a : Told). a.correction.dx) e, ap (λ (a : Told). a.correction.dy) e, ap (λ (a : Told). a.culprit) e, ns, rs, s)
