-- What is lent fits a call of the reader. Assumes nothing.
use Rattle.std.specs.Prelude.{◌≡◌, true, ◌&&◌, ℕ, ◌≤◌, eqb, leb}
use Rattle.std.proofs.Common.{eqb-true, leb-true}
use Rattle.lists.specs.ListsLaw.{and_left, and_right}
use Rattle.protocol.specs.declared.Session.{Session}
use Rattle.fitting.specs.Lent.{Whole, whole, whole_is}
use Rattle.pieces.specs.Reader.{fits}

pub record Fits (ll nl rl sl ol k : ℕ) (s : Session) : Type 0 where
  pub line : ll ≡ 255
  pub used : k ≤ 255
  pub lent : Whole nl rl sl ol s

pub fits-is : (ll nl rl sl ol used : ℕ) (s : Session) → fits ll nl rl sl ol used s ≡ true → Fits ll nl rl sl ol used s
unfolding fits
fits-is ll nl rl sl ol used s e =
    let x = eqb ll 255 && leb used 255 in
    let f = and_left x (whole nl rl sl ol s) e in
    record {
      line = eqb-true ll 255 (and_left (eqb ll 255) (leb used 255) f);
      used = leb-true used 255 (and_right (eqb ll 255) (leb used 255) f);
      lent = whole_is nl rl sl ol s (and_right x (whole nl rl sl ol s) e);
    }
