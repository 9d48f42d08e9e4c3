-- The code's values as the definitions of `pieces` have them. Assumes nothing.
use Rattle.std.specs.Prelude.{false, List, ℕ, ℤ}
use Rattle.text.specs.Writing.{wrote}
use Rattle.protocol.specs.Frames.{held, session}
use Rattle.pieces.specs.Reader.{unfinished, Reader, reader, Taken, tells}
use Rattle.reader.specs.declared.Carried.{Carried}
use Rattle.reader.specs.declared.Heard.{Heard}
use Rattle.reader.specs.declared.Took.{Took}

abbrev pub carries : Carried → List ℕ → List ℤ → List ℕ → List ℕ → Reader
carries c line ns rs sc = reader (unfinished c.used line) c.ended (held ns rs sc c.session)

abbrev pub heard : Heard → List ℕ → List ℤ → List ℕ → List ℕ → List ℕ → Taken
heard r line ns rs sc out = tells 0 1 (wrote r.written out) (carries r.carried line ns rs sc)

abbrev pub took : Took → List ℕ → List ℤ → List ℕ → List ℕ → List ℕ → Taken
took r line ns rs sc out = tells r.number r.taken (wrote r.written out) (carries r.carried line ns rs sc)

-- of a reader that has read nothing
abbrev pub fresh : Carried
fresh = record { used = 0; ended = false; session = session 0 0 0 false }

-- of a call that changes nothing
abbrev pub nothing : ℕ → Carried → Took
nothing number c = record { number = number; taken = 0; written = 0; carried = c }
