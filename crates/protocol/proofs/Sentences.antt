-- Sentences of documents 01 and 02 about a line, as theorems. Assumes nothing.
use Rattle.std.specs.Prelude.{◌≡◌, Bool, true, false, ◌&&◌, List, [], ◌++◌, ℕ, ◌+◌, ◌*◌, ◌≤◌, ◌<◌, eqb, length, drop}
use Rattle.std.proofs.Math.Path.{refl}
use Rattle.std.proofs.Common.{ap, ap₂, ◌∙◌}
use borrow.Author.Tests.{eqb-true, eq-eqb, ne_eqb, lt-ltb}
use Rattle.lists.specs.Lists.{any, once, cases}
use Rattle.lists.specs.AnyLaw.{any-once}
use Rattle.meaning.specs.declared.Correction.{Correction}
use Rattle.meaning.specs.Lawful.{InBounds}
use Rattle.meaning.specs.Split.{newest, all_three}
use Rattle.meaning.specs.Tables.{Outcome, answer, node_at, row_at}
use Rattle.meaning.specs.Calls.{check_out, refine_out, refine_by_out, red_out, set_out}
use Rattle.tables.specs.PutLaw.{node-set-same, row-set-same}
use Rattle.text.specs.Digits.{field, listed, hex}
use Rattle.text.specs.Lines.{correction_in, node_in, row_in, ended, red_field, answer_line}
use Rattle.text.specs.LinesAre.{setting_text, setting-node, setting-correction}
use Rattle.protocol.specs.declared.Session.{Session}
use Rattle.protocol.specs.Frames.{Held, step, given_by, refines_in, well_formed, admits, takes, kind_of, fields_of, add_node, add_row, or_dropped, marks_of, plain, called, answering, frame, line_step}

-- "Values in `01` and `02` are judged only by `03`." With room and no accepted base, a 01 of 24 digits is taken whatever they say: it
-- answers nothing and stores them; and so is a 02 of 12. (What 03 then says: the rows of `talks` on values, in Worked.)
module _ (h : Held) (line : List ℕ) (formed : well_formed line ≡ true) (before : h.session.accepted ≡ false) where
  pub node-taken : kind_of line ≡ 1 → length (fields_of line) ≡ 24 → h.session.n < 512 → line_step h line ≡ step (add_node h (fields_of line)) []
  unfolding line_step takes admits frame
  node-taken k l r = rw (formed, k, before, eq-eqb (length (fields_of line)) 24 l, lt-ltb h.session.n 512 r)

  pub row-taken : kind_of line ≡ 2 → length (fields_of line) ≡ 12 → h.session.t < 1024 → line_step h line ≡ step (add_row h (fields_of line)) []
  unfolding line_step takes admits frame
  row-taken k l r = rw (formed, k, before, eq-eqb (length (fields_of line)) 12 l, lt-ltb h.session.t 1024 r)

module _ (h : Held) (fields : List ℕ) where
  pub node-stored : 4 * h.session.n + 4 ≤ length h.nodes → node_at (add_node h fields).nodes h.session.n ≡ node_in fields
  unfolding add_node
  node-stored r = node-set-same h.nodes h.session.n (node_in fields) r

  pub row-stored : 3 * h.session.t + 3 ≤ length h.rows → row_at (add_row h fields).rows h.session.t ≡ row_in fields
  unfolding add_row
  row-stored r = row-set-same h.rows h.session.t (row_in fields) r

-- "A repeated number counts once.": a list's marks are those of its members once each
pub marks-once : (k : ℕ) (l : List ℕ) → marks_of k (once eqb l) ≡ marks_of k l
unfolding marks_of
marks-once k l =
    let e : (i : ℕ) → any (eqb i) (once eqb l) ≡ any (eqb i) l = λ i. any-once eqb (eqb i) (λ x y q. ap (eqb i) (eqb-true x y q)) l in
    simp e

-- W1: "The line program gets `09`, laid out .. like `04`": with the same fields both are taken, or neither is. W8: "`0a`, laid out like `04`"
module _ (s : Session) (fields : List ℕ) where
  pub nine-laid-out : admits s 9 fields ≡ admits s 4 fields
  unfolding admits refines_in
  nine-laid-out = refl

  pub ten-laid-out : admits s 0x0a fields ≡ admits s 4 fields
  unfolding admits refines_in
  ten-laid-out = refl

-- W1: ".. and answered like `04`": kind, number, counts and passes, of the refinement of the triangles listed, each by its own way
module _ (h : Held) (fields : List ℕ) where
  pub four-answered : frame h 4 fields ≡ answering h 4 (plain (refine_out newest (given_by h) h.session.n0 (marks_of h.session.t (listed fields))))
  unfolding frame called refines_in refine_by_out answer_line
  four-answered = refl

  pub nine-answered : frame h 9 fields ≡ answering h 9 (plain (refine_out all_three (given_by h) h.session.n0 (marks_of h.session.t (listed fields))))
  unfolding frame called refines_in refine_by_out answer_line
  nine-answered = refl

  -- W8: `0a` refines them in W8's way
  pub ten-answered : frame h 0x0a fields ≡ answering h 0x0a (red_out (given_by h) h.session.n0 (marks_of h.session.t (listed fields)))
  unfolding frame called refines_in
  ten-answered = refl

-- W5: "`08` node dx dy (4 digits each)": 12 digits, whatever they say; "`ff` only if malformed or before an accepted 03"
pub eight-laid-out : (s : Session) (fields : List ℕ) → admits s 8 fields ≡ (s.accepted && eqb (length fields) 12)
unfolding admits refines_in
eight-laid-out s fields = refl

module _ (h : Held) where
  -- ".. sets and answers as `04` does": the correction of the node given, with the base's node count
  pub eight-answered : (fields : List ℕ) → frame h 8 fields ≡ answering h 8 (plain (set_out (given_by h) h.session.n0 (field 4 fields 0) (correction_in fields 1)))
  unfolding frame called refines_in
  eight-answered fields = refl

  -- what it sets: any node that 4 digits can say, to any correction in range
  pub eight-sets : (z : ℕ) (c : Correction) → z < 65536 → InBounds c → frame h 8 (setting_text z c) ≡ answering h 8 (plain (set_out (given_by h) h.session.n0 z c))
  eight-sets z c k b =
      eight-answered (setting_text z c) ∙
      ap₂ (λ (y : ℕ) (d : Correction). answering h 8 (plain (set_out (given_by h) h.session.n0 y d))) (setting-node z c k) (setting-correction z c b)

  module _ (line : List ℕ) (formed : well_formed line ≡ true) (after : h.session.accepted ≡ true) (kind : kind_of line ≡ 8) (long : length (fields_of line) ≡ 12) where
    eight-takes : takes h.session line ≡ true
    unfolding takes
    eight-takes = rw (formed, kind, eight-laid-out h.session (fields_of line), after, eq-eqb (length (fields_of line)) 12 long)

    -- so that a number not below n too is answered by the call, and not by `ff`
    pub eight-taken : line_step h line ≡ answering h 8 (plain (set_out (given_by h) h.session.n0 (field 4 (fields_of line) 0) (correction_in (fields_of line) 1)))
    unfolding line_step
    eight-taken = rw (eight-takes, kind) (eight-answered (fields_of line))

-- what two cases have in common
alike : {A B : Type 0} (f : A → B) (b : Bool) (x y : A) → f y ≡ f x → f (cases b x y) ≡ f x
alike f true x y e = refl
alike f false x y e = e

-- 01: "A refused 03 drops all rows and shows zero counts."; and it keeps the culprit
module _ (o : Outcome) where
  pub refused-shown : (o.answer.number ≡ 0 → ⊥) → (or_dropped o).answer ≡ answer o.answer.number 0 0 0 o.answer.culprit
  refused-shown k = rw (ne_eqb o.answer.number 0 k)

  culprit-kept : (or_dropped o).answer.culprit ≡ o.answer.culprit
  culprit-kept = alike (λ (x : Outcome). x.answer.culprit) (eqb o.answer.number 0) o _ refl

-- W2: "Answer lines but `ff` grow by four digits at their end": the culprit of the call's answer. Of the kinds that are taken, all but 01,
-- 02 and 07 answer. W8: "its answer alone ends with that field, two digits": after the culprit, and of every other kind the line ends there
module _ (h : Held) (fields : List ℕ) where
  pub culprit-shown : (kind : ℕ) → (kind ≡ 1 → ⊥) → (kind ≡ 2 → ⊥) → (kind ≡ 7 → ⊥) →
      drop 16 (frame h kind fields).text ≡ ended (hex 4 (called h kind fields).outcome.answer.culprit ++ red_field kind (called h kind fields).red)
  unfolding frame answer_line hex
  culprit-shown kind a b c = rw (ne_eqb kind 1 a, ne_eqb kind 2 b, ne_eqb kind 7 c)

  pub culprit-last : (kind : ℕ) → (kind ≡ 1 → ⊥) → (kind ≡ 2 → ⊥) → (kind ≡ 7 → ⊥) → (kind ≡ 0x0a → ⊥) →
      drop 16 (frame h kind fields).text ≡ ended (hex 4 (called h kind fields).outcome.answer.culprit)
  unfolding hex
  culprit-last kind a b c d = culprit-shown kind a b c ∙ rw (ne_eqb kind 0x0a d)

  pub red-last : drop 16 (frame h 0x0a fields).text ≡ ended (hex 4 (called h 0x0a fields).outcome.answer.culprit ++ hex 2 (called h 0x0a fields).red)
  unfolding frame answer_line hex
  red-last = refl

  -- that of 03 is the base check's, refused or not
  pub culprit-of-base : (called h 3 fields).outcome.answer.culprit ≡ (check_out (given_by h)).answer.culprit
  unfolding called
  culprit-of-base = culprit-kept (check_out (given_by h))
