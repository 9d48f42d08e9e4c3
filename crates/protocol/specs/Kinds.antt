-- Document 01, 'The line program': the code that each kind of frame has, "kind (2 digits)". Assumes nothing.
use Rattle.std.specs.Prelude.{◌≡◌, ℕ, Option, MatchOption}
use Rattle.protocol.specs.declared.Kind.{Kind}
use Rattle.protocol.specs.declared.Kind.TheVariants.{Node, Row, Base, Refine, Coarsen, Restore, List, Set, Quarter, Red}

abbrev pub code : Kind → ℕ
code Node = 0x01
code Row = 0x02
code Base = 0x03
code Refine = 0x04
code Coarsen = 0x05
code Restore = 0x06
code List = 0x07
code Set = 0x08
code Quarter = 0x09
code Red = 0x0a

-- the kind that has the code, or none where no kind has it
abbrev pub Coded : ℕ → Option Kind → Type 0
Coded n o = MatchOption o ((kind : Kind) → code kind ≡ n → ⊥) (λ kind. code kind ≡ n)
