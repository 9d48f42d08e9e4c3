-- W1: "a marked triangle cut in four at once"; W8: "a triangle with all three edges split becomes" four rows. After a refine that says 0, every triangle with all three edges
-- split stands in the new mesh as four rows: those of bisecting it and both its halves, or the red ones, which are shaped like it. From all three edges every marked one is such.
-- Assumes nothing.
use Rattle.std.specs.Prelude.{true, ◌≡◌, refl, ℕ, ◌<◌, length, get_or, Option, None, Some}
use mathlib.Core.List.{List, Memᴰ}
use Rattle.std.proofs.Common.{ap, ◌∙◌, arith}
use Rattle.lists.specs.Lists.{All}
use Rattle.lists.specs.ListsLaw.{All-at, All-get_or, all_yes}
use Rattle.lists.specs.Tally.{bit}
use Rattle.meaning.specs.declared.Manner.{Manner}
use Rattle.meaning.specs.declared.Manner.TheVariants.{AllThree}
use Rattle.meaning.specs.declared.Quarters.{Quarters}
use Rattle.meaning.specs.declared.Quarters.TheVariants.{Red}
use Rattle.meaning.specs.declared.Tri.{Tri}
use Rattle.meaning.specs.Mesh.{Mesh, Edge, tri, edges, at}
use Rattle.meaning.specs.Lawful.{row_of}
use Rattle.meaning.specs.Good.{Middle}
use Rattle.meaning.specs.Split.{cutting_of, way_of, red, mem_edge, wholly, halves, number_of, split, refined}
use Rattle.meaning.specs.Tables.{Room}
use Rattle.meaning.specs.Calls.{refine_no}
use Rattle.laws.specs.Cut.{parts, there, Centred}
use Rattle.laws.specs.Midpoints.{centred}
use Rattle.laws.specs.SplitLaw.{number-there}
use Rattle.laws.specs.RedShape.{ShapedLike, red-shaped}
use Rattle.laws.specs.Refine.{to_split, RefineSays, unlawful, no-fault, all-halves, refine-exact}
use Rattle.laws.specs.RedTold.{marked-wholly}
use Rattle.growth.specs.SplitRows.{Placed, parts-placed}

-- The triangle t, which was row i, is cut in four in the mesh new, in one way or the other.
pub record InFour (q : Quarters) (t : Tri) (i : ℕ) (new : Mesh) : Type 0 where
  -- "midpoints m of q–r, u of p–q, v of r–p"
  pub m : ℕ
  pub u : ℕ
  pub v : ℕ
  pub on-qr : Middle (at new m) (at new t.q) (at new t.r)
  pub on-pq : Middle (at new u) (at new t.p) (at new t.q)
  pub on-rp : Middle (at new v) (at new t.r) (at new t.p)
  -- the first in row i, the others in three later rows, in this order.
  -- 01: (u,m,p), then (v,m,r), (u,q,m), (v,p,m). W8: "(p,u,v) on the father's row and then (u,q,m), (v,m,r), (m,v,u) appended"
  pub four-rows : Placed new.tris i (cutting_of q t (Some m) (Some u) (Some v))

-- all three edges have a number
four : (q : Quarters) {t : Tri} {i : ℕ} {new : Mesh} (o u v : Option ℕ) → there o ≡ 1 → there u ≡ 1 → there v ≡ 1 → Centred new t o u v → Placed new.tris i (cutting_of q t o u v) → InFour q t i new
four q (Some m) (Some u) (Some v) a b c h P = record { m = m; u = u; v = v; on-qr = h.on-qr; on-pq = h.on-pq; on-rp = h.on-rp; four-rows = P }
four q None u v a b c h P = absurd (omega arith)
four q (Some m) None v a b c h P = absurd (omega arith)
four q (Some m) (Some u) None a b c h P = absurd (omega arith)

-- EVERY TRIANGLE WITH ALL THREE EDGES SPLIT IS CUT IN FOUR.
pub wholly-in-four : (k : Manner) (q : Quarters) (room : Room) (m : Mesh) (marks : List ℕ) → refine_no (way_of k q) room m marks ≡ 0 → (i : ℕ) → i < length m.tris →
    wholly (to_split (way_of k q) m marks) (row_of m.tris i) ≡ true → InFour q (row_of m.tris i) i (refined (way_of k q) m marks)
unfolding refined split
wholly-in-four k q room m marks e i l all = go ((refine-exact (way_of k q) room m marks 0).0 e)
  where
    t : Tri
    t = row_of m.tris i

    s : List Edge
    s = to_split (way_of k q) m marks

    numbered : {d : Edge} → Memᴰ d (edges t) → there (number_of (length m.nodes) s d) ≡ 1
    numbered {d} j = number-there (length m.nodes) s d ∙ ap bit (All-at (all_yes (λ d. mem_edge d s) (edges t) all) j)

    go : RefineSays (way_of k q) room m marks 0 → InFour q t i (refined (way_of k q) m marks)
    go (unlawful k g above low) = absurd (omega arith)
    go (no-fault g law even f) =
        four q _ _ _ (numbered (Memᴰ.head refl)) (numbered (Memᴰ.tail (Memᴰ.head refl))) (numbered (Memᴰ.tail (Memᴰ.tail (Memᴰ.head refl))))
        (centred (cutting_of q) m s (all_yes (halves m) s (all-halves (way_of k q) room m marks even)) t (All-get_or law.named i (tri 0 0 0) l))
        (parts-placed (cutting_of q) m s i l)

-- EVERY MARKED TRIANGLE IS, from all three edges.
pub marked-in-four : (q : Quarters) (room : Room) (m : Mesh) (marks : List ℕ) → refine_no (way_of AllThree q) room m marks ≡ 0 → (i : ℕ) → i < length m.tris → get_or marks i 0 ≡ 1 →
    InFour q (row_of m.tris i) i (refined (way_of AllThree q) m marks)
marked-in-four q room m marks e i l one = wholly-in-four AllThree q room m marks e i l (marked-wholly q m marks i l one)

-- W8: "children shaped like the father"
pub four-shaped : {t : Tri} {i : ℕ} {new : Mesh} (f : InFour Red t i new) → All (ShapedLike new t) (parts (red t (Some f.m) (Some f.u) (Some f.v)))
four-shaped {t} {new = new} f = red-shaped new t f.m f.u f.v (record { on-qr = f.on-qr; on-pq = f.on-pq; on-rp = f.on-rp })
