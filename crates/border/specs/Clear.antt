-- The border is clear: no border edge meets another but in a node of both, and no row lies just right of the middle of one. Definitions. P gives the place of
-- each node. Assumes nothing.
use Rattle.std.specs.Prelude.{Bool, not, ◌&&◌, ◌||◌, List, ℕ, ℤ, pos, ◌+ℤ◌}
use Rattle.std.specs.Int.Signed.{lt_z}
use Rattle.lists.specs.Lists.{all, any}
use Rattle.meaning.specs.declared.Place.{Place}
use Rattle.meaning.specs.Mesh.{Arrow, turn}
use Rattle.meaning.specs.Good.{same_z}
use Rattle.meaning.specs.Proper.{Point}
use Rattle.pairs.specs.Pair.{on_side}
use Rattle.border.specs.Sums.{one, added}
use Rattle.border.specs.Under.{Form, key, under}

-- by this form different places have different keys, and so have a place and the middle of an edge
abbrev pub steep : Form
steep = record { along = pos 8_388_608; across = pos 1 }

-- halfway from A to B
abbrev pub middle : Place → Place → Point
middle A B = record { X = A.x +ℤ B.x; Y = A.y +ℤ B.y; W = pos 2 }

-- one is below 0 and one above
abbrev pub opposite : ℤ → ℤ → Bool
opposite x y = (lt_z x (pos 0) && lt_z (pos 0) y) || (lt_z (pos 0) x && lt_z y (pos 0))

-- C and D are strictly on both sides of the line of A and B, and A and B of the line of C and D
abbrev pub crosses : Place → Place → Place → Place → Bool
crosses A B C D = opposite (turn A B C) (turn A B D) && opposite (turn C D A) (turn C D B)

-- g begins on e, though in no end of it, or crosses it
unfoldable pub meets : (ℕ → Place) → Arrow → Arrow → Bool
meets P e g = on_side P e g.from || crosses (P e.from) (P e.to) (P g.from) (P g.to)

-- how many of the arrows es run under the middle of e, those that fall counted as −1
unfoldable pub under_middle : (ℕ → Place) → List Arrow → Arrow → ℤ
under_middle P es e = added (λ g. under steep (P g.from) (P g.to) (middle (P e.from) (P e.to))) es

-- no row lies just right of the middle of e: that side is below where e rises, and above, so that e itself counts, where it falls
abbrev pub right_free : (ℕ → Place) → List Arrow → Arrow → Bool
right_free P es e = same_z (under_middle P es e) (one (lt_z (key steep (P e.to)) (key steep (P e.from))))

unfoldable pub clear : (ℕ → Place) → List Arrow → Bool
clear P es = all (λ e. not (any (meets P e) es) && right_free P es e) es
