-- Laws of single steps, which the check finds alone today: midpoints and means as they are made, and one edge and one row. Assumes nothing.
use Rattle.std.specs.Prelude.{◌≡◌, refl, Bool, true, false, ◌||◌, List, ℕ, ℤ, pos, negsuc, ◌+ℤ◌, ◌-ℤ◌, ◌≤ℤ◌}
use Rattle.std.proofs.Common.{sym, subst, arith, eq-eqb, ne_eqb}
use Rattle.std.specs.Int.Signed.{lt_z, quot_z}
use Rattle.whole.specs.Bound.{absℤ}
use Rattle.whole.specs.Diff.{onℤ}
use Rattle.whole.specs.Half.{half-below}
use Rattle.whole.specs.Tests.{tests}
use Rattle.meaning.specs.declared.Correction.{Correction}
use Rattle.meaning.specs.declared.Node.{Node}
use Rattle.meaning.specs.declared.Place.{Place}
use Rattle.meaning.specs.declared.Tri.{Tri}
use Rattle.meaning.specs.Mesh.{place, correction, node}
use Rattle.meaning.specs.Lawful.{InBounds, NodeInRange}
use Rattle.meaning.specs.Rounding.{floor}
use Rattle.meaning.specs.Split.{half, mean}
use Rattle.meaning.specs.Tables.{node_at, row_at}
use Rattle.laws.specs.Meshes.{Stands}
use Rattle.tables.specs.Put.{set_node}
use Rattle.notes.specs.declared.Note.{Note}
use Rattle.notes.specs.Notes.{note_at}
use Rattle.nodes.specs.Nodes.{Near, middle_of, between, odd_split, odd_row, odd_at, place_edge}

-- ---- midpoints

pub middle-made : (a b : Place) (x y : ℤ) → x ≡ half (a.x +ℤ b.x) → y ≡ half (a.y +ℤ b.y) → place x y ≡ middle_of a b
unfolding middle_of
middle-made a b x y p q = rw (p, q)

-- ---- means

-- two ways to a half
pub half-down-below : (z : ℤ) → lt_z z (pos 0) ≡ true → quot_z (z -ℤ pos 1) (pos 2) ≡ floor z (pos 2)
half-down-below (pos n) e = absurd (omega (arith, onℤ, tests))
half-down-below (negsuc n) e = half-below n

pub half-down-from : (z : ℤ) → lt_z z (pos 0) ≡ false → quot_z z (pos 2) ≡ floor z (pos 2)
half-down-from (pos n) e = refl
half-down-from (negsuc n) e = absurd (omega (arith, onℤ, tests))

-- the parts of a correction in its range
bounded-near : (z : ℤ) → negsuc 32_767 ≤ℤ z → z ≤ℤ pos 32_767 → Near 32_768 z
bounded-near z a b = record { near = omega (arith, onℤ, absℤ z) }

pub dx-near : (c : Correction) → InBounds c → Near 32_768 c.dx
dx-near c b = bounded-near c.dx b.dx-from b.dx-to

pub dy-near : (c : Correction) → InBounds c → Near 32_768 c.dy
dy-near c b = bounded-near c.dy b.dy-from b.dy-to

pub mean-made : (c d : Correction) (x y : ℤ) → x ≡ floor (c.dx +ℤ d.dx) (pos 2) → y ≡ floor (c.dy +ℤ d.dy) (pos 2) → correction x y ≡ mean c d
mean-made c d x y p q = rw (p, q)

pub between-made : (a b : Node) (p : Place) (c : Correction) → p ≡ middle_of a.place b.place → c ≡ mean a.correction b.correction → node p c ≡ between a b
unfolding between
between-made a b p c e d = rw (e, d)

-- ---- corners

pub node-range-of : (nodes : List ℤ) (x : ℕ) (a : Node) → a ≡ node_at nodes x → Stands nodes x → NodeInRange a
node-range-of nodes x a e c = subst NodeInRange (sym e) c.range

-- ---- 8

pub odd-row-is : (nodes : List ℤ) (l s : List ℕ) (i : ℕ) (w : Tri) (c : Note) (a b d : Bool) → w ≡ row_at l i → c ≡ note_at s i →
    a ≡ odd_split nodes c.m w.q w.r → b ≡ odd_split nodes c.u w.p w.q → d ≡ odd_split nodes c.v w.r w.p → a || b || d ≡ odd_at nodes l s i
unfolding odd_at odd_row
odd-row-is nodes l s i w c a b d p q x y z = rw (← p, ← q, x, y, z)

-- ---- the new nodes

pub place-yes : (nodes nodes' : List ℤ) (fst k x y : ℕ) (a b m : Node) → fst ≡ 1 → a ≡ node_at nodes x → b ≡ node_at nodes y → m ≡ between a b → nodes' ≡ set_node nodes k m →
    nodes' ≡ place_edge fst k x y nodes
unfolding place_edge
place-yes nodes nodes' fst k x y a b m e p q r f = rw (eq-eqb fst 1 e, ← p, ← q, ← r) f

pub place-no : (nodes : List ℤ) (fst k x y : ℕ) → (fst ≡ 1 → ⊥) → nodes ≡ place_edge fst k x y nodes
unfolding place_edge
place-no nodes fst k x y e = rw (ne_eqb fst 1 e)
