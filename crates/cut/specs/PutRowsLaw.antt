-- A table after rows are put, and after one cut is put. Assumes nothing.
use Rattle.std.specs.Prelude.{◌≡◌, refl, List, [], ◌∷◌, ℕ, suc, ◌+◌, ◌-◌, ◌*◌, ◌≤◌, ◌<◌, length}
use Rattle.std.proofs.Common.{◌∙◌, arith}
use Rattle.lists.specs.Search.{items, iter, iter_from}
use Rattle.lists.specs.ItemsLaw.{items-cons, items-none}
use Rattle.meaning.specs.declared.Tri.{Tri}
use Rattle.meaning.specs.Split.{cut}
use Rattle.meaning.specs.Tables.{row_at}
use Rattle.tables.specs.Put.{set_row}
use Rattle.tables.specs.PutLaw.{rows-table}
use Rattle.cut.specs.Cutting.{children, append, placed, put_rows, put_cut}

pub length-put : (l : List ℕ) (at : ℕ) (ws : List Tri) → length (put_rows l at ws) ≡ length l
unfolding put_rows
length-put l at [] = refl
length-put l at (w ∷ ws) = length-put (set_row l at w) (at + 1) ws ∙ rows-table.long l at w

-- the rows below and above stay
pub put-below : (l : List ℕ) (at : ℕ) (ws : List Tri) (j : ℕ) → j < at → row_at (put_rows l at ws) j ≡ row_at l j
unfolding put_rows
put-below l at [] j h = refl
put-below l at (w ∷ ws) j h = put-below (set_row l at w) (at + 1) ws j (omega arith) ∙ rows-table.other l at j w (omega arith)

pub put-above : (l : List ℕ) (at : ℕ) (ws : List Tri) (j : ℕ) → at + length ws ≤ j → row_at (put_rows l at ws) j ≡ row_at l j
unfolding put_rows
put-above l at [] j h = refl
put-above l at (w ∷ ws) j h = put-above (set_row l at w) (at + 1) ws j (omega arith) ∙ rows-table.other l at j w (omega arith)

-- the rows between are those that were put
pub put-rows : (l : List ℕ) (at : ℕ) (ws : List Tri) → 3 * (at + length ws) ≤ length l → items (row_at (put_rows l at ws)) at (at + length ws) ≡ ws
unfolding put_rows
put-rows l at [] h = items-none (row_at l) at (at + 0) (omega arith)
put-rows l at (w ∷ ws) h =
    let e : at + suc (length ws) ≡ at + 1 + length ws = omega arith in
    let k : 3 * (at + 1 + length ws) ≤ length (set_row l at w) = rw (rows-table.long l at w) (omega arith) in
    let m : List ℕ = put_rows (set_row l at w) (at + 1) ws in
    let a : row_at m at ≡ w = put-below (set_row l at w) (at + 1) ws at (omega arith) ∙ rows-table.same l at w (omega arith) in
    rw e (items-cons (row_at m) at (at + 1 + length ws) (omega arith) ∙ rw (a, put-rows (set_row l at w) (at + 1) ws k))

-- a cut's children are put one after the other
pub placed-put : (x : Tri) (a : List Tri) (l : List ℕ) (i at : ℕ) → length a ≤ 3 →
    placed (children (cut x a)).rows (children (cut x a)).count l i at ≡ put_cut (cut x a) i at l
unfolding placed append iter iter_from row_at put_rows put_cut
placed-put x [] l i at h = refl
placed-put x (a ∷ []) l i at h =
    let e : at + 1 - 1 ≡ at = omega arith in
    rw e
placed-put x (a ∷ b ∷ []) l i at h =
    let e : at + 1 - 1 ≡ at = omega arith in
    let f : at + 2 - 1 ≡ at + 1 = omega arith in
    rw (e, f)
placed-put x (a ∷ b ∷ c ∷ []) l i at h =
    let e : at + 1 - 1 ≡ at = omega arith in
    let f : at + 2 - 1 ≡ at + 1 = omega arith in
    let g : at + 3 - 1 ≡ at + 1 + 1 = omega arith in
    rw (e, f, g)
placed-put x (a ∷ b ∷ c ∷ d ∷ r) l i at h = absurd (omega arith)
