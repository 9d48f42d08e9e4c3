-- Marks: after all rows have marked their corners, a node has no mark exactly where no row holds it. Assumes nothing.
use Rattle.std.specs.Prelude.{◌≡◌, refl, Bool, true, false, not, ◌||◌, List, ◌++◌, ℕ, ◌≤◌, ◌<◌, eqb, length, get_or, set, take, drop, replicate, Option, None}
use Rattle.std.proofs.Common.{ap, ◌∙◌, arith, length-set, take-append-drop, drop-set-lt}
use Rattle.lists.specs.Lists.{any, cases}
use Rattle.lists.specs.Search.{lowest, items, iter}
use Rattle.lists.specs.SearchLaw.{lowest-agree}
use Rattle.lists.specs.IterLaw.{iter-keeps}
use Rattle.lists.specs.MarksLaw.{mark-read, marks-or, marks-read, zeros-at}
use Rattle.meaning.specs.Mesh.{holds_node}
use Rattle.meaning.specs.Lawful.{unused}
use Rattle.meaning.specs.Tables.{row_at}
use Rattle.neighbours.specs.Sized.{Corners}
use Rattle.lawful.specs.Tests.{misnamed_at, mark_step, blank_at}
use Rattle.lawful.specs.TestsLaw.{corners-at}

step-length : (l : List ℕ) (i : ℕ) (s : List ℕ) → length (mark_step l i s) ≡ length s
unfolding mark_step
step-length l i s = simp length-set

step-read : (l : List ℕ) (z i : ℕ) (s : List ℕ) → z < length s → get_or (mark_step l i s) z 0 ≡ cases (holds_node z (row_at l i)) 1 (get_or s z 0)
unfolding mark_step
step-read l z i s h =
    let w = row_at l i in
    let h1 : z < length (set s w.p 1) = rw (length-set s w.p 1) h in
    let h2 : z < length (set (set s w.p 1) w.q 1) = rw (length-set (set s w.p 1) w.q 1) h1 in
    mark-read (set (set s w.p 1) w.q 1) w.r z h2
    ∙ ap (cases (eqb w.r z) 1)
    (mark-read (set s w.p 1) w.q z h1 ∙ ap (cases (eqb w.q z) 1) (mark-read s w.p z h) ∙ marks-or (eqb w.p z) (eqb w.q z) (get_or s z 0))
    ∙ marks-or (eqb w.p z || eqb w.q z) (eqb w.r z) (get_or s z 0)

-- a mark of 1 over a blank
zero-mark : (b : Bool) → eqb (cases b 1 0) 0 ≡ not b
zero-mark true = refl
zero-mark false = refl

blank-unused : (l s : List ℕ) (t n z : ℕ) → z < n → n ≤ length s → take n s ≡ replicate n 0 → blank_at (iter (mark_step l) 0 t s) z ≡ unused (items (row_at l) 0 t) z
unfolding blank_at
blank-unused l s t n z h b e =
    rw (marks-read (mark_step l) (holds_node z) (row_at l) z (step-length l) (step-read l z) t s (omega arith), zeros-at n s z e h)
    (zero-mark (any (holds_node z) (items (row_at l) 0 t)))

-- the lowest node without a mark
pub unmarked : (l s s' : List ℕ) (t n : ℕ) (f : Option ℕ) → n ≤ length s → take n s ≡ replicate n 0 → s' ≡ iter (mark_step l) 0 t s → f ≡ lowest (blank_at s') 0 n →
    f ≡ lowest (unused (items (row_at l) 0 t)) 0 n
unmarked l s s' t n f b e g h = h ∙ rw g (lowest-agree (blank_at (iter (mark_step l) 0 t s)) (unused (items (row_at l) 0 t)) n (λ z u. blank-unused l s t n z u b e))

-- only notes below n are written
step-above : (l s : List ℕ) (n i : ℕ) → Corners n (row_at l i) → drop n (mark_step l i s) ≡ drop n s
unfolding mark_step
step-above l s n i c =
    let w = row_at l i in
    drop-set-lt n (set (set s w.p 1) w.q 1) w.r 1 c.r-in ∙ drop-set-lt n (set s w.p 1) w.q 1 c.q-in ∙ drop-set-lt n s w.p 1 c.p-in

-- and with these cleared scratch is as it was
pub marks-gone : (l s s' s'' : List ℕ) (t n : ℕ) → lowest (misnamed_at l n) 0 t ≡ None → take n s ≡ replicate n 0 → s' ≡ iter (mark_step l) 0 t s →
    s'' ≡ replicate n 0 ++ drop n s' → s'' ≡ s
marks-gone l s s' s'' t n m e g h =
    let a : drop n s' ≡ drop n s = rw g
    (iter-keeps (mark_step l) (λ (r : List ℕ). drop n r ≡ drop n s) t s (λ j r u p. step-above l r n j (corners-at l n n t j (omega arith) m u) ∙ p) refl) in
    h ∙ rw (a, ← e) (take-append-drop n s)
