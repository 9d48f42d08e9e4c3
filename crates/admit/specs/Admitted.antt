-- What is said of a line: the kind of its frame if it is taken, and nothing otherwise. Assumes nothing.
use Rattle.std.specs.Prelude.{◌≡◌, true, false, List, ℕ, Option, MatchOption}
use Rattle.protocol.specs.declared.Kind.{Kind}
use Rattle.protocol.specs.declared.Session.{Session}
use Rattle.protocol.specs.Frames.{takes, kind_of}
use Rattle.protocol.specs.Kinds.{code}

abbrev pub Admitted : Session → List ℕ → Option Kind → Type 0
Admitted s line o = MatchOption o (takes s line ≡ false) (λ kind. (takes s line ≡ true) × (code kind ≡ kind_of line))
