-- What an exported call leaves out of an answer can be told from what it was given. Assumes nothing.
use Rattle.std.specs.Prelude.{List, ◌≡◌, ℕ, ℤ}
use Rattle.std.proofs.Common.{sym, subst, ap, ◌∙◌, SFits, to_z, of_z, to_z-of_z}
use Rattle.std.specs.Int.{w32}
use Rattle.meaning.specs.declared.Answer.{Answer}
use Rattle.meaning.specs.declared.Correction.{Correction}
use Rattle.meaning.specs.declared.Told.{Told}
use Rattle.meaning.specs.Mesh.{place, correction}
use Rattle.meaning.specs.Split.{Way, in_red}
use Rattle.meaning.specs.Tables.{Given, Outcome, outcome, answer}
use Rattle.meaning.specs.Calls.{check_out, refine_out, tinted, red_out, coarsen_out, set_out, told_as, heard, ask_out}
use Rattle.laws.specs.RedTold.{red-outcome}
use Rattle.laws.specs.CallLaw.{AsGiven, check-leaves, refine-no-passes, coarsen-no-passes, set-no-passes, set-counts}
use Rattle.text.specs.Writing.{wrote}
use Rattle.reader.specs.declared.Took.{Took}
use Rattle.reader.specs.Values.{carries, took}
use Rattle.pieces.specs.Reader.{Reader, Taken, tells, begin_out, end_out}
use Rattle.pieces.proofs.Parts.{begin-taken, end-taken}

module _ (a : Answer) (nodes : List ℤ) (rows scratch : List ℕ) where
  -- the base check shows the counts it was given and no passes
  pub check-answer : (g : Given) → outcome a nodes rows scratch ≡ check_out g → outcome (answer a.number g.n g.t 0 a.culprit) nodes rows scratch ≡ check_out g
  check-answer g e =
      let c = subst (AsGiven g) (sym e) (check-leaves g).all-as-given in
      (λ i. outcome (answer a.number (sym c.n-same i) (sym c.t_same i) (sym c.no-passes i) a.culprit) nodes rows scratch) ∙ e

  no-passes-shown : a.passes ≡ 0 → outcome (answer a.number a.n a.t 0 a.culprit) nodes rows scratch ≡ outcome a nodes rows scratch
  no-passes-shown z i = outcome (answer a.number a.n a.t (sym z i) a.culprit) nodes rows scratch

  without-passes : (o : Outcome) → o.answer.passes ≡ 0 → outcome a nodes rows scratch ≡ o → outcome (answer a.number a.n a.t 0 a.culprit) nodes rows scratch ≡ o
  without-passes o z e = no-passes-shown (ap (λ (x : Outcome). x.answer.passes) e ∙ z) ∙ e

  -- by whatever way
  pub refine-answer : (w : Way) (marks : List ℕ) (g : Given) (n0 : ℕ) → outcome a nodes rows scratch ≡ refine_out w g n0 marks →
      outcome (answer a.number a.n a.t 0 a.culprit) nodes rows scratch ≡ refine_out w g n0 marks
  refine-answer w marks g n0 e = without-passes _ (refine-no-passes w g n0 marks) e

  -- W8: the new field r stands beside
  pub red-answer : (r : ℕ) (marks : List ℕ) (g : Given) (n0 : ℕ) → tinted (outcome a nodes rows scratch) r ≡ red_out g n0 marks →
      tinted (outcome (answer a.number a.n a.t 0 a.culprit) nodes rows scratch) r ≡ red_out g n0 marks
  red-answer r marks g n0 e =
      ap (λ (o : Outcome). tinted o r)
      (no-passes-shown (ap (λ (o : Outcome). o.answer.passes) (red-outcome g n0 marks (tinted (outcome a nodes rows scratch) r) e) ∙ refine-no-passes in_red g n0 marks))
      ∙ e

  pub coarsen-answer : (marks : List ℕ) (g : Given) (n0 : ℕ) → outcome a nodes rows scratch ≡ coarsen_out g n0 marks →
      outcome (answer a.number a.n a.t 0 a.culprit) nodes rows scratch ≡ coarsen_out g n0 marks
  coarsen-answer marks g n0 e = without-passes _ (coarsen-no-passes g n0 marks) e

  -- a setting shows the counts it was given and no passes
  as-set : (g : Given) (n0 z : ℕ) (c : Correction) → outcome a nodes rows scratch ≡ set_out g n0 z c →
      outcome (answer a.number g.n g.t 0 a.culprit) nodes rows scratch ≡ set_out g n0 z c
  as-set g n0 z c e =
      let s = set-counts g n0 z c in
      let n : a.n ≡ g.n = ap (λ (x : Outcome). x.answer.n) e ∙ s.0 in
      let t : a.t ≡ g.t = ap (λ (x : Outcome). x.answer.t) e ∙ s.1 in
      (λ i. outcome (answer a.number (sym n i) (sym t i) 0 a.culprit) nodes rows scratch) ∙ without-passes _ (set-no-passes g n0 z c) e

  -- dx and dy as the machine holds them
  pub set-answer : (g : Given) (n0 z : ℕ) (x y : ℤ) → SFits w32 x → SFits w32 y → outcome a nodes rows scratch ≡ set_out g n0 z (correction (to_z w32 (of_z w32 x)) (to_z w32 (of_z w32 y))) →
      outcome (answer a.number g.n g.t 0 a.culprit) nodes rows scratch ≡ set_out g n0 z (correction x y)
  set-answer g n0 z x y f h e = as-set g n0 z (correction x y) (rw (to_z-of_z f, to_z-of_z h) at e)

-- a question: x and y, dx and dy as the machine holds them
pub ask-answer : (a : Told) (nodes : List ℤ) (rows scratch : List ℕ) (g : Given) (n0 : ℕ) (x y : ℤ) → SFits w32 x → SFits w32 y → SFits w32 a.correction.dx → SFits w32 a.correction.dy →
    heard a nodes rows scratch ≡ ask_out g n0 (place (to_z w32 (of_z w32 x)) (to_z w32 (of_z w32 y))) →
    heard (told_as a.number (to_z w32 (of_z w32 a.correction.dx)) (to_z w32 (of_z w32 a.correction.dy)) a.culprit) nodes rows scratch ≡ ask_out g n0 (place x y)
ask-answer a nodes rows scratch g n0 x y f h p q e = rw (to_z-of_z p, to_z-of_z q) (rw (to_z-of_z f, to_z-of_z h) at e)

-- begin and end take no byte of a piece
module _ (k : Took) (line : List ℕ) (ns : List ℤ) (rs sc out : List ℕ) where
  without-taken : (x : Taken) → x.taken ≡ 0 → took k line ns rs sc out ≡ x → tells k.number 0 (wrote k.written out) (carries k.carried line ns rs sc) ≡ x
  without-taken x z e = (λ i. tells k.number (sym (ap (λ (y : Taken). y.taken) e ∙ z) i) (wrote k.written out) (carries k.carried line ns rs sc)) ∙ e

  pub begin-answer : (line₀ : List ℕ) (ns₀ : List ℤ) (rs₀ sc₀ out₀ : List ℕ) → took k line ns rs sc out ≡ begin_out line₀ ns₀ rs₀ sc₀ out₀ →
      tells k.number 0 (wrote k.written out) (carries k.carried line ns rs sc) ≡ begin_out line₀ ns₀ rs₀ sc₀ out₀
  begin-answer line₀ ns₀ rs₀ sc₀ out₀ = without-taken (begin_out line₀ ns₀ rs₀ sc₀ out₀) (begin-taken line₀ ns₀ rs₀ sc₀ out₀)

  pub end-answer : (r : Reader) (out₀ : List ℕ) → took k line ns rs sc out ≡ end_out r out₀ →
      tells k.number 0 (wrote k.written out) (carries k.carried line ns rs sc) ≡ end_out r out₀
  end-answer r out₀ = without-taken (end_out r out₀) (end-taken r out₀)

pub ruleset exported = (check-answer, refine-answer, red-answer, coarsen-answer, begin-answer, end-answer)
