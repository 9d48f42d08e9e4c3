-- A buffer that is written into from a place on. Assumes nothing.
use Rattle.std.specs.Prelude.{◌≡◌, ℕ, ◌+◌, ◌≤◌, length}
use Rattle.text.specs.declared.write.Out.{Out}
use Rattle.text.specs.Writing.{Wrote, wrote}

abbrev pub held : Out → Wrote
held o = wrote o.at o.buf.now

-- n more bytes fit
abbrev pub Room : Out → ℕ → Type 0
Room o n = o.at + n ≤ length o.buf.now

-- q is the same buffer, at most n bytes further on
pub record Further (o q : Out) (n : ℕ) : Type 0 where
  pub same : q.buf.ghost_name ≡ o.buf.ghost_name
  pub long : length q.buf.now ≡ length o.buf.now
  pub at : q.at ≤ o.at + n
