-- The calls of frames 03 to 06, 08 to 0a, in the form in which the code makes them. Assumes nothing.
use Rattle.std.specs.Prelude.{◌≡◌, refl, Bool, true, false, List, Some, None, ℕ, ◌-◌, ◌/◌, ◌≤◌, eqb, ℤ, pos, length, take, replicate}
use Rattle.std.proofs.Common.{◌∙◌, arith}
use borrow.Author.Tests.{eqb-true, eq-eqb, ne_eqb}
use Rattle.lists.specs.Search.{iter}
use Rattle.meaning.specs.declared.Answer.{Answer}
use Rattle.meaning.specs.declared.Correction.{Correction}
use Rattle.meaning.specs.declared.Manner.{Manner}
use Rattle.meaning.specs.declared.Quarters.{Quarters}
use Rattle.meaning.specs.declared.Tinted.{Tinted}
use Rattle.meaning.specs.Tables.{Given, given, Outcome, outcome, answer}
use Rattle.meaning.specs.Calls.{TintedOut, tinted, check_out, refine_by_out, coarsen_out, restore_out, set_out}
use Rattle.text.specs.Digits.{number, field, listed}
use Rattle.text.specs.Lines.{correction_in}
use Rattle.protocol.specs.declared.Kind.{Kind}
use Rattle.protocol.specs.declared.Kind.TheVariants.{Node, Row, Base, Refine, Coarsen, Restore, List as Show, Set, Quarter, Red}
use Rattle.protocol.specs.Kinds.{code}
use Rattle.protocol.specs.declared.Session.{Session}
use Rattle.protocol.specs.Frames.{held, session, refines_in, or_dropped, marks_of, called, session_after}
use Rattle.calls.specs.MarksLaw.{mark_one, marked-are}

-- ---- 03: the check's outcome, accepted or dropped

module _ (a : Answer) (ns : List ℤ) (rs sc : List ℕ) (o : Outcome) (c : outcome a ns rs sc ≡ o) where
  pub check-kept : a.number ≡ 0 → outcome a ns rs sc ≡ or_dropped o
  check-kept z = rw (← c, eq-eqb a.number 0 z)

  pub check-dropped : (ns₁ : List ℤ) (rs₁ : List ℕ) → (a.number ≡ 0 → ⊥) → ns₁ ≡ replicate (length ns) (pos 0) → rs₁ ≡ replicate (length rs) 0 →
      outcome (answer a.number 0 0 0 a.culprit) ns₁ rs₁ sc ≡ or_dropped o
  check-dropped ns₁ rs₁ z f g =
      let en : length ns - 0 ≡ length ns = omega arith in
      let er : length rs - 0 ≡ length rs = omega arith in
      rw (← c, ne_eqb a.number 0 z, f, g, en, er)

-- ---- 03 to 06, 08 to 0a

-- w is the way in which a kind refines
not-base : (n : ℕ) (w : Manner × Quarters) → Some w ≡ refines_in n → (b : Bool) → eqb n 3 ≡ b → b ≡ false
unfolding refines_in
not-base n w h true e = let q = rw (eqb-true n 3 e) at h in cc
not-base n w h false e = refl

module _ (ns : List ℤ) (rs sc : List ℕ) (s : Session) (f : List ℕ) where
  pub called-refine : (n : ℕ) (w : Manner × Quarters) (o : TintedOut) → Some w ≡ refines_in n →
      o ≡ refine_by_out w.0 w.1 (given ns rs sc s.n s.t) s.n0 (marks_of s.t (listed f)) → o ≡ called (held ns rs sc s) n f
  unfolding called
  called-refine n w o h e = e ∙ rw (not-base n w h (eqb n 3) refl, ← h)

  -- x is the answer, and a what is said of it
  module _ (a : Tinted) (x : Answer) (ns₁ : List ℤ) (rs₁ sc₁ : List ℕ) (p : a.answer ≡ x) (q : a.red ≡ 0) where
    module _ (kind : Kind) where
      pub called-check : kind ≡ Base → outcome x ns₁ rs₁ sc₁ ≡ or_dropped (check_out (given ns rs sc s.n s.t)) →
          tinted (outcome a.answer ns₁ rs₁ sc₁) a.red ≡ called (held ns rs sc s) (code kind) f
      unfolding called
      called-check k e = rw (k, p, q, e)

      pub called-coarsen : kind ≡ Coarsen → outcome x ns₁ rs₁ sc₁ ≡ coarsen_out (given ns rs sc s.n s.t) s.n0 (marks_of s.n (listed f)) →
          tinted (outcome a.answer ns₁ rs₁ sc₁) a.red ≡ called (held ns rs sc s) (code kind) f
      unfolding called refines_in
      called-coarsen k e = rw (k, p, q, e)

      pub called-set : kind ≡ Set → outcome x ns₁ rs₁ sc₁ ≡ set_out (given ns rs sc s.n s.t) s.n0 (field 4 f 0) (correction_in f 1) →
          tinted (outcome a.answer ns₁ rs₁ sc₁) a.red ≡ called (held ns rs sc s) (code kind) f
      unfolding called refines_in
      called-set k e = rw (k, p, q, e)

    -- of the other kinds that do not refine
    pub called-restore : (kind : Kind) → None ≡ refines_in (code kind) → (kind ≡ Base → ⊥) → (kind ≡ Coarsen → ⊥) → (kind ≡ Set → ⊥) →
        outcome x ns₁ rs₁ sc₁ ≡ restore_out (given ns rs sc s.n s.t) s.n0 → tinted (outcome a.answer ns₁ rs₁ sc₁) a.red ≡ called (held ns rs sc s) (code kind) f
    unfolding called refines_in
    called-restore Node h b c d e = rw (p, q, e)
    called-restore Row h b c d e = rw (p, q, e)
    called-restore Base h b c d e = absurd (b refl)
    called-restore Refine h b c d e = cc
    called-restore Coarsen h b c d e = absurd (c refl)
    called-restore Restore h b c d e = rw (p, q, e)
    called-restore Show h b c d e = rw (p, q, e)
    called-restore Set h b c d e = absurd (d refl)
    called-restore Quarter h b c d e = cc
    called-restore Red h b c d e = cc

-- what is given to be set, as the code reads it
pub set-read : (f : List ℕ) (g : Given) (n0 z : ℕ) (c : Correction) (o : Outcome) → z ≡ number 4 f 0 → c ≡ correction_in f 1 → o ≡ set_out g n0 z c →
    o ≡ set_out g n0 (field 4 f 0) (correction_in f 1)
set-read f g n0 z c o a b e = rw (← a, ← b) e

-- what is listed, as the code marks it
module _ (f : List ℕ) (k : ℕ) (m : List ℕ) (g : Given) (n0 : ℕ) where
  pub refine-marked : (j : Manner) (q : Quarters) (o : TintedOut) → k ≤ 1024 → m ≡ iter (mark_one f) 0 (length f / 4) (replicate 1024 0) →
      o ≡ refine_by_out j q g n0 (take k m) → o ≡ refine_by_out j q g n0 (marks_of k (listed f))
  refine-marked j q o h e c = rw (← marked-are f k 1024 m h e) c

  pub coarsen-marked : (o : Outcome) → k ≤ 512 → m ≡ iter (mark_one f) 0 (length f / 4) (replicate 512 0) → o ≡ coarsen_out g n0 (take k m) → o ≡ coarsen_out g n0 (marks_of k (listed f))
  coarsen-marked o h e c = rw (← marked-are f k 512 m h e) c

module _ (s : Session) (a : Answer) where
  pub after_check : (kind : Kind) → kind ≡ Base → session a.n a.t a.n (eqb a.number 0) ≡ session_after s (code kind) a
  unfolding session_after
  after_check kind k = rw k

  pub after-work : (kind : Kind) → (kind ≡ Base → ⊥) → session a.n a.t s.n0 s.accepted ≡ session_after s (code kind) a
  unfolding session_after
  after-work Base n = absurd (n refl)
  after-work Node n = refl
  after-work Row n = refl
  after-work Refine n = refl
  after-work Coarsen n = refl
  after-work Restore n = refl
  after-work Show n = refl
  after-work Set n = refl
  after-work Quarter n = refl
  after-work Red n = refl
