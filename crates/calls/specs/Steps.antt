-- Laws of single steps, which the check finds alone today: of any kind byte. Assumes nothing.
use Rattle.std.specs.Prelude.{◌≡◌, List, Option, None, ℕ, eqb, ℤ}
use borrow.Author.Tests.{ne_eqb}
use Rattle.meaning.specs.declared.Answer.{Answer}
use Rattle.meaning.specs.declared.Manner.{Manner}
use Rattle.meaning.specs.declared.Quarters.{Quarters}
use Rattle.meaning.specs.Tables.{given, Outcome}
use Rattle.meaning.specs.Calls.{check_out, coarsen_out, restore_out, set_out}
use Rattle.text.specs.Digits.{field, listed}
use Rattle.text.specs.Lines.{correction_in}
use Rattle.protocol.specs.declared.Session.{Session}
use Rattle.protocol.specs.Frames.{held, session, refines_in, or_dropped, marks_of, plain, called, session_after}

-- ---- 03 to 06, 08 to 0a

module _ (ns : List ℤ) (rs sc : List ℕ) (s : Session) (kind : ℕ) (f : List ℕ) where
  module _ (o : Outcome) where
    pub called-check : kind ≡ 3 → o ≡ or_dropped (check_out (given ns rs sc s.n s.t)) → plain o ≡ called (held ns rs sc s) kind f
    unfolding called
    called-check k e = rw (e, k)

    pub called-coarsen : kind ≡ 5 → o ≡ coarsen_out (given ns rs sc s.n s.t) s.n0 (marks_of s.n (listed f)) → plain o ≡ called (held ns rs sc s) kind f
    unfolding called refines_in
    called-coarsen k e = rw (e, k)

    pub called-set : kind ≡ 8 → o ≡ set_out (given ns rs sc s.n s.t) s.n0 (field 4 f 0) (correction_in f 1) → plain o ≡ called (held ns rs sc s) kind f
    unfolding called refines_in
    called-set k e = rw (e, k)

  -- r is what the code found of the kind
  module _ (r : Option (Manner × Quarters)) (g : r ≡ refines_in kind) (x : kind ≡ 3 → ⊥) where
    pub called-restore : (o : Outcome) → r ≡ None → (kind ≡ 5 → ⊥) → (kind ≡ 8 → ⊥) → o ≡ restore_out (given ns rs sc s.n s.t) s.n0 →
        plain o ≡ called (held ns rs sc s) kind f
    unfolding called
    called-restore o h c d e = rw (e, ne_eqb kind 3 x, ← g, h, ne_eqb kind 5 c, ne_eqb kind 8 d)

module _ (s : Session) (kind : ℕ) (a : Answer) where
  pub after_check : kind ≡ 3 → session a.n a.t a.n (eqb a.number 0) ≡ session_after s kind a
  unfolding session_after
  after_check k = rw k

  pub after-work : (kind ≡ 3 → ⊥) → session a.n a.t s.n0 s.accepted ≡ session_after s kind a
  unfolding session_after
  after-work k = rw (ne_eqb kind 3 k)
