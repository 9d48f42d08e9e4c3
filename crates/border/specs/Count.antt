-- How many rows a point is inside, from the border alone. Assumes nothing.
use Rattle.std.specs.Prelude.{List, ◌≡◌, refl, ℕ, ℤ, pos, ◌+ℤ◌, ◌<ℤ◌}
use Rattle.std.proofs.Common.{sym, ap, ap₂, ◌∙◌, arith}
use Rattle.whole.specs.Diff.{onℤ, sumℤ}
use Rattle.lists.specs.Lists.{count, All, nil, cons}
use Rattle.lists.specs.ListsLaw.{All-imp}
use Rattle.meaning.specs.declared.Tri.{Tri}
use Rattle.meaning.specs.Mesh.{Mesh, Arrow, arrows, at, twice_area}
use Rattle.meaning.specs.Lawful.{Lawful}
use Rattle.meaning.specs.Proper.{Point, area, shape}
use Rattle.border.specs.Sums.{one, added, added-joined, added-count}
use Rattle.border.specs.Under.{Form, Off, under, inside, under-swapped, one-triangle}
use Rattle.border.specs.Cancel.{Once, arrows_of, border, border-sum}

-- an arrow of the mesh under the point
abbrev pub under_arrow : Form → Mesh → Point → Arrow → ℤ
under_arrow f m s e = under f (at m e.from) (at m e.to) s

-- the number of rows that the point is inside
abbrev pub depth : Mesh → Point → ℕ
depth m s = count (λ t. inside (shape m t) s) m.tris

-- the point is on no line of a row's side, and no corner of a row has its key
abbrev pub OffRows : Form → Mesh → Point → Type 0
OffRows f m s = All (λ t. Off f (shape m t) s) m.tris

pub drop-zero : (a b c : ℤ) → a +ℤ (b +ℤ (c +ℤ pos 0)) ≡ a +ℤ (b +ℤ c)
drop-zero a b c = let e : c +ℤ pos 0 ≡ c = omega (arith, onℤ, sumℤ c (pos 0)) in ap (λ k. a +ℤ (b +ℤ k)) e

-- for any rows of positive area: all their arrows under the point
depth-all : (f : Form) (m : Mesh) (s : Point) → All (λ t. pos 0 <ℤ area (shape m t)) m.tris → OffRows f m s → pos (depth m s) ≡ added (under_arrow f m s) (arrows_of m.tris)
depth-all f m s h o = sym (added-count (λ t. inside (shape m t) s) m.tris) ∙ rows h o ∙ sym (added-joined (under_arrow f m s) arrows m.tris)
  where
    row-sum : (t : Tri) → pos 0 <ℤ area (shape m t) → Off f (shape m t) s → added (under_arrow f m s) (arrows t) ≡ one (inside (shape m t) s)
    row-sum t h o =
        drop-zero (under f (at m t.p) (at m t.q) s) (under f (at m t.q) (at m t.r) s) (under f (at m t.r) (at m t.p) s) ∙
        one-triangle f (shape m t) s h o

    rows : {ts : List Tri} → All (λ t. pos 0 <ℤ area (shape m t)) ts → All (λ t. Off f (shape m t) s) ts →
        added (λ t. one (inside (shape m t) s)) ts ≡ added (λ t. added (under_arrow f m s) (arrows t)) ts
    rows nil nil = refl
    rows (cons {x = t} h hs) (cons o os) = ap₂ ◌+ℤ◌ (sym (row-sum t h o)) (rows hs os)

-- where no arrow occurs twice: the border alone
pub depth-border : (f : Form) (m : Mesh) (s : Point) → All (λ t. pos 0 <ℤ area (shape m t)) m.tris → Once (arrows_of m.tris) → OffRows f m s →
    pos (depth m s) ≡ added (under_arrow f m s) (border m.tris)
depth-border f m s h o off = depth-all f m s h off ∙ border-sum (λ a b. under f (at m a) (at m b) s) (λ a b. under-swapped f (at m a) (at m b) s) m.tris o

-- the rows of a lawful mesh have areas above 0
pub areas-above : (m : Mesh) → Lawful m → All (λ t. pos 0 <ℤ area (shape m t)) m.tris
unfolding twice_area
areas-above m law = All-imp (λ t h. h) law.positive

-- a lawful mesh is such
pub depth-lawful : (f : Form) (m : Mesh) (s : Point) → Lawful m → OffRows f m s → pos (depth m s) ≡ added (under_arrow f m s) (border m.tris)
depth-lawful f m s law off = depth-border f m s (areas-above m law) law.no_twice off
