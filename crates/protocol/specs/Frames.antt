-- Document 01, 'The line program', W1's `09`, W2's culprit, W5's corrections and `08`, W8's `0a`: what one line does to what the program holds, and
-- what it writes. Every definition takes any tables and any bytes. Assumes nothing.
use Rattle.std.specs.Prelude.{Bool, true, false, not, ◌&&◌, List, [], Option, Some, None, ℕ, ◌+◌, ◌%◌, eqb, leb, ltb, ℤ, pos, length, drop}
use Rattle.lists.specs.Lists.{all, any, cases}
use Rattle.lists.specs.Search.{items}
use Rattle.meaning.specs.declared.Answer.{Answer}
use Rattle.meaning.specs.declared.Manner.{Manner}
use Rattle.meaning.specs.declared.Manner.TheVariants.{Newest, AllThree}
use Rattle.meaning.specs.declared.Quarters.{Quarters}
use Rattle.meaning.specs.declared.Quarters.TheVariants.{Bisected, Red}
use Rattle.meaning.specs.Tables.{Given, given, Outcome, outcome, answer, filled}
use Rattle.meaning.specs.Calls.{TintedOut, tinted, check_out, refine_by_out, coarsen_out, restore_out, set_out}
use Rattle.tables.specs.Put.{set_node, set_row}
use Rattle.text.specs.Digits.{is_digit, number, field, listed}
use Rattle.text.specs.Lines.{correction_in, node_in, row_in, ff_line, answer_line, all_lines}
use Rattle.protocol.specs.declared.Session.{Session}

-- ---- what the program holds, and what a line makes of it

abbrev pub session : ℕ → ℕ → ℕ → Bool → Session
session n t n0 b = record { n = n; t = t; n0 = n0; accepted = b }

-- "The program holds each table whole"
pub record Held : Type 0 where
  pub nodes : List ℤ
  pub rows : List ℕ
  pub scratch : List ℕ
  pub session : Session

abbrev pub held : List ℤ → List ℕ → List ℕ → Session → Held
held ns rs sc s = record { nodes = ns; rows = rs; scratch = sc; session = s }

abbrev pub given_by : Held → Given
given_by h = given h.nodes h.rows h.scratch h.session.n h.session.t

-- what is held after the line, and the bytes written for it
pub record Step : Type 0 where
  pub next : Held
  pub text : List ℕ

abbrev pub step : Held → List ℕ → Step
step h text = record { next = h; text = text }

-- "answers `ff` and changes nothing"
abbrev pub ff : Held → Step
ff h = step h ff_line

-- ---- the kinds that refine

-- each in its way. 01: "`04` refines the triangles listed"; W1: "The line program gets `09`, laid out and answered like `04`."; W8: "gets `0a`,
-- laid out like `04`"
unfoldable pub refines_in : ℕ → Option (Manner × Quarters)
refines_in kind =
    cases (eqb kind 4) (Some (Newest, Bisected))
    (cases (eqb kind 9) (Some (AllThree, Bisected))
    (cases (eqb kind 0x0a) (Some (AllThree, Red))
    None))

abbrev pub if_refines : {A : Type 0} → Option (Manner × Quarters) → (Manner → Quarters → A) → A → A
if_refines (Some way) f a = f way.0 way.1
if_refines None f a = a

abbrev pub is_refining : ℕ → Bool
is_refining kind = if_refines (refines_in kind) (λ _ _. true) false

-- ---- which lines are taken

-- digits alone, a kind byte at least and "at most 254 digits"
unfoldable pub well_formed : List ℕ → Bool
well_formed line = leb 2 (length line) && leb (length line) 254 && all is_digit line

abbrev pub all_below : ℕ → List ℕ → Bool
all_below end l = all (λ k. ltb k end) l

-- "0 to 63 numbers of 4 digits", each below the end
unfoldable pub lists_below : ℕ → List ℕ → Bool
lists_below end fields = eqb (length fields % 4) 0 && all_below end (listed fields)

-- The other reasons for `ff`: fields of another length, "a number listed in `04` not below t or in `05` not below n, a row past 512 nodes
-- or 1,024 triangles, 01 to 03 after an accepted 03, or 04 to 06 before one". `03`, `06` and `07` have no fields; `09` and `0a` are "laid out .. like `04`".
-- W5: "Frame 01 grows by eight digits; `08` node dx dy (4 digits each) .. `ff` only if malformed or before an accepted 03": its node may be any.
unfoldable pub admits : Session → ℕ → List ℕ → Bool
admits s kind fields =
    cases (eqb kind 1) (not s.accepted && eqb (length fields) 24 && ltb s.n 512)
    (cases (eqb kind 2) (not s.accepted && eqb (length fields) 12 && ltb s.t 1024)
    (cases (eqb kind 3) (not s.accepted && eqb (length fields) 0)
    (cases (is_refining kind) (s.accepted && lists_below s.t fields)
    (cases (eqb kind 5) (s.accepted && lists_below s.n fields)
    (cases (eqb kind 6) (s.accepted && eqb (length fields) 0)
    (cases (eqb kind 8) (s.accepted && eqb (length fields) 12)
    (eqb kind 7 && eqb (length fields) 0)))))))

-- "The kind byte is read first and the rest of the line is handed on for its fields."
abbrev pub kind_of : List ℕ → ℕ
kind_of line = number 2 line 0

abbrev pub fields_of : List ℕ → List ℕ
fields_of line = drop 2 line

unfoldable pub takes : Session → List ℕ → Bool
takes s line = well_formed line && admits s (kind_of line) (fields_of line)

-- ---- 01 and 02

-- "`01` x y (8 digits each) adds a node", W5's dx and dy with it
unfoldable pub add_node : Held → List ℕ → Held
add_node h fields =
    held (set_node h.nodes h.session.n (node_in fields)) h.rows h.scratch
    (session (h.session.n + 1) h.session.t h.session.n0 h.session.accepted)

-- "`02` p q r (4 digits each) a triangle"
unfoldable pub add_row : Held → List ℕ → Held
add_row h fields =
    held h.nodes (set_row h.rows h.session.t (row_in fields)) h.scratch
    (session h.session.n (h.session.t + 1) h.session.n0 h.session.accepted)

-- ---- the calls: 03 to 06, 08 to 0a

-- "A refused 03 drops all rows and shows zero counts." The culprit is shown all the same: the node or row, counted as they were added
abbrev pub or_dropped : Outcome → Outcome
or_dropped o =
    cases (eqb o.answer.number 0) o
    (outcome (answer o.answer.number 0 0 0 o.answer.culprit) (filled (pos 0) (length o.nodes) []) (filled 0 (length o.rows) []) o.scratch)

-- the marks for k rows or nodes: "A repeated number counts once."
unfoldable pub marks_of : ℕ → List ℕ → List ℕ
marks_of k l = items (λ i. cases (any (eqb i) l) 1 0) 0 k

-- a call that cuts no triangle
abbrev pub plain : Outcome → TintedOut
plain o = tinted o 0

-- "`03` ends the base and checks it; `04` refines the triangles listed; `05` coarsens the nodes listed; `06` restores"; `09` and `0a` refine like `04`;
-- W5: "`08` node dx dy (4 digits each) sets and answers as `04` does"
unfoldable pub called : Held → ℕ → List ℕ → TintedOut
called h kind fields =
    cases (eqb kind 3) (plain (or_dropped (check_out (given_by h))))
    (if_refines (refines_in kind) (λ k q. refine_by_out k q (given_by h) h.session.n0 (marks_of h.session.t (listed fields)))
    (cases (eqb kind 5) (plain (coarsen_out (given_by h) h.session.n0 (marks_of h.session.n (listed fields))))
    (cases (eqb kind 8) (plain (set_out (given_by h) h.session.n0 (field 4 fields 0) (correction_in fields 1)))
    (plain (restore_out (given_by h) h.session.n0)))))

-- the counts are the answer's; a 03 that says 0 is accepted, and its nodes are the base's
unfoldable pub session_after : Session → ℕ → Answer → Session
session_after s kind a =
    cases (eqb kind 3) (session a.n a.t a.n (eqb a.number 0))
    (session a.n a.t s.n0 s.accepted)

abbrev pub answering : Held → ℕ → TintedOut → Step
answering h kind x =
    let o : Outcome = x.outcome in
    step (held o.nodes o.rows o.scratch (session_after h.session kind o.answer)) (answer_line kind (record { answer = o.answer; red = x.red }))

-- ---- a line

-- "`07` writes all nodes as `01` frames, then all triangles as `02` frames, and no answer line."
unfoldable pub frame : Held → ℕ → List ℕ → Step
frame h kind fields =
    cases (eqb kind 1) (step (add_node h fields) [])
    (cases (eqb kind 2) (step (add_row h fields) [])
    (cases (eqb kind 7) (step h (all_lines h.nodes h.rows h.session.n h.session.t))
    (answering h kind (called h kind fields))))

unfoldable pub line_step : Held → List ℕ → Step
line_step h line = cases (takes h.session line) (frame h (kind_of line) (fields_of line)) (ff h)
