-- Frames and whole lines, in the form in which the code takes them. Assumes nothing.
use Rattle.std.specs.Prelude.{◌≡◌, Bool, true, false, not, List, ℕ, ◌+◌, ◌-◌, ◌*◌, ◌≤◌, ℤ, length, take, drop}
use Rattle.std.proofs.Common.{refl, sym, ap, ◌∙◌, arith}
use borrow.Author.Tests.{not-true, not-false}
use Rattle.meaning.specs.declared.Node.{Node as Spot}
use Rattle.meaning.specs.declared.Tinted.{Tinted}
use Rattle.meaning.specs.declared.Tri.{Tri}
use Rattle.meaning.specs.Tables.{outcome}
use Rattle.meaning.specs.Calls.{tinted}
use Rattle.tables.specs.Put.{set_node, set_row}
use Rattle.text.specs.Digits.{number}
use Rattle.text.specs.Lines.{node_in, row_in, ff_line, answer_line, all_lines}
use Rattle.text.specs.Writing.{Wrote, wrote, writes}
use Rattle.protocol.specs.declared.Kind.{Kind}
use Rattle.protocol.specs.declared.Kind.TheVariants.{Node, Row, Base, Refine, Coarsen, Restore, List as Show, Set, Quarter, Red}
use Rattle.protocol.specs.declared.Session.{Session}
use Rattle.frames.specs.declared.Answered.{Answered}
use Rattle.protocol.specs.Frames.{Held, held, session, admits, takes, add_node, add_row, called, session_after, answering, frame, line_step}
use Rattle.protocol.specs.Kinds.{code}
use Rattle.fitting.specs.Lent.{Lent, writing, whole, Whole, whole_is, line_lent}
use Rattle.frames.specs.Answered.{lent}
use Rattle.admit.specs.AdmitLaw.{node-room, row_room, rest-is}

abbrev answered : Session → ℕ → Answered
answered s k = record { session = s; written = k }

-- what is held, and what stands in the buffer
abbrev with : Held → Wrote → Lent
with h w = record { next = h; text = w }

-- ---- a frame

-- an admitted 01 or 02 has its place in the table
module _ (nl rl sl ol : ℕ) (f : List ℕ) (s : Session) (w : Whole nl rl sl ol s) where
  module _ (kind : Kind) (y : admits s (code kind) f ≡ true) where
    pub node-fits : kind ≡ Node → 4 * s.n + 4 ≤ nl
    node-fits e = let r = node-room s (code kind) f y (ap code e) in omega (arith, w.nodes)

    pub tri-room : kind ≡ Row → 3 * s.t + 3 ≤ rl
    tri-room e = let r = row_room s (code kind) f y (ap code e) in omega (arith, w.rows)

-- of the other kinds
answers : (h : Held) (f : List ℕ) (kind : Kind) → (kind ≡ Node → ⊥) → (kind ≡ Row → ⊥) → (kind ≡ Show → ⊥) →
    frame h (code kind) f ≡ answering h (code kind) (called h (code kind) f)
unfolding frame
answers h f Node x y z = absurd (x refl)
answers h f Row x y z = absurd (y refl)
answers h f Base x y z = refl
answers h f Refine x y z = refl
answers h f Coarsen x y z = refl
answers h f Restore x y z = refl
answers h f Show x y z = absurd (z refl)
answers h f Set x y z = refl
answers h f Quarter x y z = refl
answers h f Red x y z = refl

module _ (ns : List ℤ) (rs sc out : List ℕ) (s : Session) (f : List ℕ) (kind : Kind) where
  pub frame-node : kind ≡ Node → (a : Spot) (ns₁ : List ℤ) → a ≡ node_in f → ns₁ ≡ set_node ns s.n a →
      lent (answered (session (s.n + 1) s.t s.n0 s.accepted) 0) ns₁ rs sc out ≡ writing out (frame (held ns rs sc s) (code kind) f)
  unfolding frame add_node writes
  frame-node k a ns₁ p e = rw (k, e, p)

  pub frame_row : kind ≡ Row → (w : Tri) (rs₁ : List ℕ) → w ≡ row_in f → rs₁ ≡ set_row rs s.t w →
      lent (answered (session s.n (s.t + 1) s.n0 s.accepted) 0) ns rs₁ sc out ≡ writing out (frame (held ns rs sc s) (code kind) f)
  unfolding frame add_row writes
  frame_row k w rs₁ p e = rw (k, e, p)

  module _ (k : ℕ) (o : List ℕ) where
    pub frame-all : kind ≡ Show → wrote k o ≡ writes (wrote 0 out) (all_lines ns rs s.n s.t) → lent (answered s k) ns rs sc o ≡ writing out (frame (held ns rs sc s) (code kind) f)
    unfolding frame
    frame-all h e = rw h (ap (with (held ns rs sc s)) e)

    pub frame-called : (a : Tinted) (ns₁ : List ℤ) (rs₁ sc₁ : List ℕ) (s₁ : Session) → (kind ≡ Node → ⊥) → (kind ≡ Row → ⊥) → (kind ≡ Show → ⊥) →
        tinted (outcome a.answer ns₁ rs₁ sc₁) a.red ≡ called (held ns rs sc s) (code kind) f → s₁ ≡ session_after s (code kind) a.answer →
        wrote k o ≡ writes (wrote 0 out) (answer_line (code kind) a) → lent (answered s₁ k) ns₁ rs₁ sc₁ o ≡ writing out (frame (held ns rs sc s) (code kind) f)
    frame-called a ns₁ rs₁ sc₁ s₁ x y z c e w =
        rw (answers (held ns rs sc s) f kind x y z, ← c, e) (ap (with (held ns₁ rs₁ sc₁ (session_after s (code kind) a.answer))) w)

-- ---- a line

module _ (ns : List ℤ) (rs sc out : List ℕ) (s : Session) (l : List ℕ) where
  pub line-ff : (k : ℕ) (o : List ℕ) → takes s l ≡ false → wrote k o ≡ writes (wrote 0 out) ff_line → lent (answered s k) ns rs sc o ≡ writing out (line_step (held ns rs sc s) l)
  unfolding line_step
  line-ff k o t e = rw t (ap (with (held ns rs sc s)) e)

  pub line_frame : (kind : Kind) (x : Lent) → takes s l ≡ true → code kind ≡ number 2 l 0 → x ≡ writing out (frame (held ns rs sc s) (code kind) (take (length l - 2) (drop 2 l))) →
      x ≡ writing out (line_step (held ns rs sc s) l)
  unfolding line_step
  line_frame kind x t e c = rw (t, ← e) (rw (rest-is l) at c)

  -- whatever is lent
  module _ (b : Bool) (q : b ≡ whole (length ns) (length rs) (length sc) (length out) s) where
    pub line-none : not b ≡ true → lent (answered s 0) ns rs sc out ≡ line_lent (held ns rs sc s) l out
    unfolding line_lent writes
    line-none n = rw (← q, not-true b n)

    pub line_plain : (x : Lent) → not b ≡ false → x ≡ writing out (line_step (held ns rs sc s) l) → x ≡ line_lent (held ns rs sc s) l out
    unfolding line_lent
    line_plain x n e = rw (← q, not-false b n) e

pub lent-whole : (nl rl sl ol : ℕ) (s : Session) (b : Bool) → b ≡ whole nl rl sl ol s → not b ≡ false → Whole nl rl sl ol s
lent-whole nl rl sl ol s b q n = whole_is nl rl sl ol s (sym q ∙ not-false b n)
