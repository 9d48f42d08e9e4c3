-- What stands in the tables and the buffer that are lent, after a line; and the sizes that the code relies on. Assumes nothing.
use Rattle.std.specs.Prelude.{◌≡◌, Bool, true, ◌&&◌, List, [], ℕ, ◌≤◌, length}
use borrow.Author.Tests.{eqb-true, eq-eqb, leb-true, le-leb}
use Rattle.std.proofs.Math.Dec.{eqb, leb}
use Rattle.lists.specs.Lists.{cases}
use Rattle.lists.specs.ListsLaw.{and_left, and_right}
use Rattle.text.specs.Writing.{Wrote, wrote, writes}
use Rattle.protocol.specs.declared.Session.{Session}
use Rattle.protocol.specs.Frames.{Held, Step, step, line_step}

-- the tables and the session, and the buffer with the answer from its start on
pub record Lent : Type 0 where
  pub next : Held
  pub text : Wrote

abbrev pub writing : List ℕ → Step → Lent
writing out s = record { next = s.next; text = writes (wrote 0 out) s.text }

-- "The program holds each table whole": the lengths of its tables and of the buffer, and counts within its rooms
unfoldable pub whole : ℕ → ℕ → ℕ → ℕ → Session → Bool
whole nl rl sl ol s = eqb nl 2048 && eqb rl 3072 && eqb sl 6144 && leb 32768 ol && leb s.n 512 && leb s.t 1024

pub record Whole (nl rl sl ol : ℕ) (s : Session) : Type 0 where
  pub nodes : nl ≡ 2048
  pub rows : rl ≡ 3072
  pub scratch : sl ≡ 6144
  pub out : 32768 ≤ ol
  pub few-nodes : s.n ≤ 512
  pub few-rows : s.t ≤ 1024

module _ (nl rl sl ol : ℕ) (s : Session) where
  pub whole_is : whole nl rl sl ol s ≡ true → Whole nl rl sl ol s
  unfolding whole
  whole_is e =
      let x2 = eqb nl 2048 && eqb rl 3072 in
      let x3 = x2 && eqb sl 6144 in
      let x4 = x3 && leb 32768 ol in
      let x5 = x4 && leb s.n 512 in
      let e5 = and_left x5 (leb s.t 1024) e in
      let e4 = and_left x4 (leb s.n 512) e5 in
      let e3 = and_left x3 (leb 32768 ol) e4 in
      let e2 = and_left x2 (eqb sl 6144) e3 in
      record {
        nodes = eqb-true nl 2048 (and_left (eqb nl 2048) (eqb rl 3072) e2);
        rows = eqb-true rl 3072 (and_right (eqb nl 2048) (eqb rl 3072) e2);
        scratch = eqb-true sl 6144 (and_right x2 (eqb sl 6144) e3);
        out = leb-true 32768 ol (and_right x3 (leb 32768 ol) e4);
        few-nodes = leb-true s.n 512 (and_right x4 (leb s.n 512) e5);
        few-rows = leb-true s.t 1024 (and_right x5 (leb s.t 1024) e);
      }

  pub is_whole : Whole nl rl sl ol s → whole nl rl sl ol s ≡ true
  unfolding whole
  is_whole w =
      rw (
        eq-eqb nl 2048 w.nodes,
        eq-eqb rl 3072 w.rows,
        eq-eqb sl 6144 w.scratch,
        le-leb 32768 ol w.out,
        le-leb s.n 512 w.few-nodes,
        le-leb s.t 1024 w.few-rows,
      )

abbrev pub WholeHeld : Held → ℕ → Type 0
WholeHeld h ol = Whole (length h.nodes) (length h.rows) (length h.scratch) ol h.session

-- what `line` makes of any tables and any buffer: nothing unless they are whole
unfoldable pub line_lent : Held → List ℕ → List ℕ → Lent
line_lent h line out =
    cases (whole (length h.nodes) (length h.rows) (length h.scratch) (length out) h.session)
    (writing out (line_step h line))
    (writing out (step h []))
