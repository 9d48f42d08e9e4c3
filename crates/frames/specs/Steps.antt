-- Laws of single steps, which the check finds alone today: of any kind byte. Assumes nothing.
use Rattle.std.specs.Prelude.{◌≡◌, Bool, true, false, not, List, ℕ, ◌+◌, ◌-◌, ◌*◌, ◌≤◌, ℤ, length, take, drop}
use Rattle.std.proofs.Common.{ap, arith}
use borrow.Author.Tests.{ne_eqb, not-false}
use Rattle.meaning.specs.declared.Node.{Node}
use Rattle.meaning.specs.declared.Tinted.{Tinted}
use Rattle.meaning.specs.declared.Tri.{Tri}
use Rattle.meaning.specs.Tables.{outcome}
use Rattle.meaning.specs.Calls.{tinted}
use Rattle.tables.specs.Put.{set_node, set_row}
use Rattle.text.specs.Digits.{number}
use Rattle.text.specs.Lines.{node_in, row_in, answer_line, all_lines}
use Rattle.text.specs.Writing.{Wrote, wrote, writes}
use Rattle.protocol.specs.declared.Session.{Session}
use Rattle.frames.specs.declared.Answered.{Answered}
use Rattle.protocol.specs.Frames.{Held, held, session, admits, takes, add_node, add_row, called, session_after, frame, line_step}
use Rattle.fitting.specs.Lent.{Lent, writing, Whole}
use Rattle.frames.specs.Answered.{lent}
use Rattle.admit.specs.AdmitLaw.{node-room, row_room, rest-is}

abbrev answered : Session → ℕ → Answered
answered s k = record { session = s; written = k }

-- what is held, and what stands in the buffer
abbrev with : Held → Wrote → Lent
with h w = record { next = h; text = w }

-- ---- a frame

-- an admitted 01 or 02 has its place in the table
module _ (nl rl sl ol kind : ℕ) (f : List ℕ) (s : Session) (w : Whole nl rl sl ol s) (y : admits s kind f ≡ true) where
  pub node-fits : kind ≡ 1 → 4 * s.n + 4 ≤ nl
  node-fits e = let r = node-room s kind f y e in omega (arith, w.nodes)

  pub tri-room : kind ≡ 2 → 3 * s.t + 3 ≤ rl
  tri-room e = let r = row_room s kind f y e in omega (arith, w.rows)

module _ (ns : List ℤ) (rs sc out : List ℕ) (s : Session) (kind : ℕ) (f : List ℕ) where
  pub frame-node : (a : Node) (ns₁ : List ℤ) → kind ≡ 1 → a ≡ node_in f → ns₁ ≡ set_node ns s.n a →
      lent (answered (session (s.n + 1) s.t s.n0 s.accepted) 0) ns₁ rs sc out ≡ writing out (frame (held ns rs sc s) kind f)
  unfolding frame add_node writes
  frame-node a ns₁ k p e = rw (k, e, p)

  pub frame_row : (w : Tri) (rs₁ : List ℕ) → kind ≡ 2 → w ≡ row_in f → rs₁ ≡ set_row rs s.t w →
      lent (answered (session s.n (s.t + 1) s.n0 s.accepted) 0) ns rs₁ sc out ≡ writing out (frame (held ns rs sc s) kind f)
  unfolding frame add_row writes
  frame_row w rs₁ k p e = rw (k, e, p)

  module _ (k : ℕ) (o : List ℕ) where
    pub frame-all : kind ≡ 7 → wrote k o ≡ writes (wrote 0 out) (all_lines ns rs s.n s.t) → lent (answered s k) ns rs sc o ≡ writing out (frame (held ns rs sc s) kind f)
    unfolding frame
    frame-all h e = rw h (ap (with (held ns rs sc s)) e)

    pub frame-called : (a : Tinted) (ns₁ : List ℤ) (rs₁ sc₁ : List ℕ) (s₁ : Session) → (kind ≡ 1 → ⊥) → (kind ≡ 2 → ⊥) → (kind ≡ 7 → ⊥) →
        tinted (outcome a.answer ns₁ rs₁ sc₁) a.red ≡ called (held ns rs sc s) kind f → s₁ ≡ session_after s kind a.answer → wrote k o ≡ writes (wrote 0 out) (answer_line kind a) →
        lent (answered s₁ k) ns₁ rs₁ sc₁ o ≡ writing out (frame (held ns rs sc s) kind f)
    unfolding frame
    frame-called a ns₁ rs₁ sc₁ s₁ h₁ h₂ h₇ c e w =
        rw (ne_eqb kind 1 h₁, ne_eqb kind 2 h₂, ne_eqb kind 7 h₇, ← c, e) (ap (with (held ns₁ rs₁ sc₁ (session_after s kind a.answer))) w)

-- ---- a line

module _ (ns : List ℤ) (rs sc out : List ℕ) (s : Session) (l : List ℕ) where
  module _ (y : Bool) (t : y ≡ takes s l) where
    pub line_frame : (kind : ℕ) (x : Lent) → not y ≡ false → kind ≡ number 2 l 0 → x ≡ writing out (frame (held ns rs sc s) kind (take (length l - 2) (drop 2 l))) →
        x ≡ writing out (line_step (held ns rs sc s) l)
    unfolding line_step
    line_frame kind x m e c = rw (← t, not-false y m, ← e) (rw (rest-is l) at c)
