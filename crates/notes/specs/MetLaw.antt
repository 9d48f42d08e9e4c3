-- Laws of the edges first met: row by row, and their numbers. Assumes nothing.
use Rattle.std.specs.Prelude.{◌≡◌, refl, List, [], ◌∷◌, ◌++◌, ℕ, zero, suc, ◌+◌, ◌≤◌, eqb, length}
use Rattle.std.proofs.Common.{ap, ◌∙◌, append-nil, arith, add-one, length-append}
use Rattle.std.proofs.Math.Decide.{ℕ_discrete}
use Rattle.lists.specs.Lists.{cons_if, up_to}
use Rattle.lists.specs.ItemsLaw.{joined-append}
use Rattle.meaning.specs.declared.Tri.{Tri}
use Rattle.meaning.specs.Mesh.{Edge, edge, base}
use Rattle.meaning.specs.Tables.{row_at}
use Rattle.notes.specs.Notes.{Note, note_at}
use Rattle.notes.specs.NotesLaw.{note-bits}
use Rattle.notes.specs.Met.{met_of, met_at, met_to, after}

pub met-none : (l s : List ℕ) → met_to l s 0 ≡ []
unfolding met_to
met-none l s = refl

pub met-more : (l s : List ℕ) (i : ℕ) → met_to l s (i + 1) ≡ met_to l s i ++ met_at l s i
unfolding met_to
met-more l s i = rw add-one (joined-append (met_at l s) (up_to i) (i ∷ []) ∙ rw (append-nil (met_at l s i)))

length-cons_if : (k : ℕ) (e : Edge) (es : List Edge) → k ≤ 1 → length (cons_if (eqb k 1) e es) ≡ k + length es
length-cons_if zero e es h = omega arith
length-cons_if (suc zero) e es h = omega arith
length-cons_if (suc (suc k)) e es h = absurd (omega arith)

length-met : (w : Tri) (c : Note) → c.fm ≤ 1 → c.fu ≤ 1 → c.fv ≤ 1 → length (met_of w c) ≡ c.fm + c.fu + c.fv
length-met w c x y z =
    length-cons_if c.fm (base w) _ x
    ∙ ap (λ k. c.fm + k) (length-cons_if c.fu (edge w.p w.q) _ y ∙ ap (λ k. c.fu + k) (length-cons_if c.fv (edge w.r w.p) [] z))
    ∙ omega arith

length-met_at : (l s : List ℕ) (i : ℕ) → length (met_at l s i) ≡ (note_at s i).fm + (note_at s i).fu + (note_at s i).fv
unfolding met_at
length-met_at l s i = let b = note-bits s i in length-met (row_at l i) (note_at s i) b.fm-bit b.fu-bit b.fv-bit

-- where a note counts the edges first met below it, its row goes on from there
pub after_is : (l s : List ℕ) (n i : ℕ) → (note_at s i).before ≡ length (met_to l s i) → after n (note_at s i) ≡ n + length (met_to l s (i + 1))
after_is l s n i e = rw (met-more l s i, length-append) (let a = length-met_at l s i in omega arith)

pub met-le : (l s : List ℕ) (i t : ℕ) → i ≤ t → length (met_to l s i) ≤ length (met_to l s t)
met-le l s i zero h = let e : i ≡ 0 = omega arith in rw e (omega arith)
met-le l s i (suc t) h = go (ℕ_discrete i (suc t)) (met-le l s i t)
  where
    go : Dec (i ≡ suc t) → (i ≤ t → length (met_to l s i) ≤ length (met_to l s t)) → length (met_to l s i) ≤ length (met_to l s (suc t))
    go (yes e) below = rw e (omega arith)
    go (no o) below =
        let k : suc t ≡ t + 1 = omega arith in
        let a = below (omega arith) in
        rw (k, met-more l s t, length-append) (omega arith)
