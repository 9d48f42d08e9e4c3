-- A contract that equates what a call of the reader answers and leaves with one value admits one outcome: of `begin`, `take` and `end`, and of the
-- exported ones. Assumes nothing.
use Rattle.std.specs.Prelude.{◌≡◌, Bool, List, ℕ, ℤ}
use Rattle.std.proofs.Common.{sym, ap, ◌∙◌}
use Rattle.text.specs.Writing.{wrote}
use Rattle.protocol.specs.declared.Session.{Session}
use Rattle.protocol.specs.Frames.{held}
use Rattle.pieces.specs.Reader.{unfinished, reader, Taken, tells}

module _ (number number' taken taken' written written' used used' : ℕ) (ended ended' : Bool) (s s' : Session) (line line' : List ℕ) (nodes nodes' : List ℤ) (rows rows' scratch scratch' out out' : List ℕ) where
  -- x is the value of `begin_out`, `take_out` or `end_out` at what two calls were given
  pub one-outcome : (x : Taken) → tells number taken (wrote written out) (reader (unfinished used line) ended (held nodes rows scratch s)) ≡ x →
      tells number' taken' (wrote written' out') (reader (unfinished used' line') ended' (held nodes' rows' scratch' s')) ≡ x →
      (number ≡ number') × (taken ≡ taken') × (written ≡ written') × (used ≡ used') × (ended ≡ ended') × (s ≡ s') × (line ≡ line') × (nodes ≡ nodes') × (rows ≡ rows') × (scratch ≡ scratch') × (out ≡ out')
  one-outcome x p q =
      let e = p ∙ sym q in (
        ap (λ (y : Taken). y.number) e,
        ap (λ (y : Taken). y.taken) e,
        ap (λ (y : Taken). y.text.at) e,
        ap (λ (y : Taken). y.next.line.used) e,
        ap (λ (y : Taken). y.next.ended) e,
        ap (λ (y : Taken). y.next.held.session) e,
        ap (λ (y : Taken). y.next.line.buffer) e,
        ap (λ (y : Taken). y.next.held.nodes) e,
        ap (λ (y : Taken). y.next.held.rows) e,
        ap (λ (y : Taken). y.next.held.scratch) e,
        ap (λ (y : Taken). y.text.out) e,
      )
