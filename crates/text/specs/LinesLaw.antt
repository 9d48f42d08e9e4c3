-- The lines that the program writes, in the form in which the code writes them. Assumes nothing.
use Rattle.std.specs.Prelude.{◌≡◌, List, [], ◌∷◌, ◌++◌, ℕ, ℤ}
use Rattle.std.proofs.Common.{eq-eqb, ne_eqb, SFits, to_z, of_z, to_z-of_z}
use Rattle.std.specs.Int.{w32}
use Rattle.lists.specs.Lists.{joined}
use Rattle.lists.specs.Search.{items}
use Rattle.meaning.specs.declared.Node.{Node}
use Rattle.meaning.specs.declared.Tinted.{Tinted}
use Rattle.meaning.specs.declared.Tri.{Tri}
use Rattle.meaning.specs.Tables.{node_at, row_at}
use Rattle.text.specs.Digits.{unsigned, hex}
use Rattle.text.specs.Lines.{red_field, answer_line, node_line, row_line, all_lines}
use Rattle.text.specs.Writing.{Wrote, writes, writes-append, then}

-- two numbers with signs, of as many digits each: a place, a correction
pub signed-put : (w x y : Wrote) (k u v : ℕ) (a b : ℤ) → SFits w32 a → SFits w32 b → u ≡ unsigned (to_z w32 (of_z w32 a)) → v ≡ unsigned (to_z w32 (of_z w32 b)) →
    x ≡ writes w (hex k u) → y ≡ writes x (hex k v) → y ≡ writes w (hex k (unsigned a) ++ hex k (unsigned b))
signed-put w x y k u v a b fa fb da db e f =
    let g : u ≡ unsigned a = rw (to_z-of_z fa) at da in
    let h : v ≡ unsigned b = rw (to_z-of_z fb) at db in
    rw (← g, ← h) (then w x y (hex k u) (hex k v) e f)

module _ (w w1 w2 w3 w4 : Wrote) where
  pub node-put : (a : Node) → w1 ≡ writes w (hex 2 1) → w2 ≡ writes w1 (hex 8 (unsigned a.place.x) ++ hex 8 (unsigned a.place.y)) →
      w3 ≡ writes w2 (hex 4 (unsigned a.correction.dx) ++ hex 4 (unsigned a.correction.dy)) → w4 ≡ writes w3 (10 ∷ []) → w4 ≡ writes w (node_line a)
  unfolding node_line
  node-put a e1 e2 e3 e4 =
      let k = hex 2 1 in
      let x = hex 8 (unsigned a.place.x) in
      let y = hex 8 (unsigned a.place.y) in
      let dx = hex 4 (unsigned a.correction.dx) in
      let dy = hex 4 (unsigned a.correction.dy) in
      rw (writes-append w (k ++ x ++ y ++ dx ++ dy) (10 ∷ []), writes-append w (k ++ x ++ y ++ dx) dy, writes-append w (k ++ x ++ y) dx, writes-append w (k ++ x) y, writes-append w k x, ← e1, ← writes-append w1 x y, ← e2, ← writes-append w2 dx dy, ← e3) e4

  module _ (w5 : Wrote) where
    pub row_put : (t : Tri) → w1 ≡ writes w (hex 2 2) → w2 ≡ writes w1 (hex 4 t.p) → w3 ≡ writes w2 (hex 4 t.q) → w4 ≡ writes w3 (hex 4 t.r) →
        w5 ≡ writes w4 (10 ∷ []) → w5 ≡ writes w (row_line t)
    unfolding row_line
    row_put t e1 e2 e3 e4 e5 =
        let p = hex 4 t.p in
        let q = hex 4 t.q in
        let r = hex 4 t.r in
        rw (writes-append w (hex 2 2 ++ p ++ q ++ r) (10 ∷ []), writes-append w (hex 2 2 ++ p ++ q) r, writes-append w (hex 2 2 ++ p) q, writes-append w (hex 2 2) p, ← e1, ← e2, ← e3, ← e4) e5

    pub answer-put : (kind : ℕ) (a : Tinted) (w6 : Wrote) → w1 ≡ writes w (hex 2 kind) → w2 ≡ writes w1 (hex 2 a.answer.number) → w3 ≡ writes w2 (hex 4 a.answer.n) →
        w4 ≡ writes w3 (hex 4 a.answer.t) → w5 ≡ writes w4 (hex 4 a.answer.passes ++ hex 4 a.answer.culprit ++ red_field kind a.red) → w6 ≡ writes w5 (10 ∷ []) →
        w6 ≡ writes w (answer_line kind a)
    unfolding answer_line
    answer-put kind a w6 e1 e2 e3 e4 e5 e6 =
        let k = hex 2 kind in
        let j = hex 2 a.answer.number in
        let n = hex 4 a.answer.n in
        let t = hex 4 a.answer.t in
        let p = hex 4 a.answer.passes in
        let c = hex 4 a.answer.culprit in
        let f = red_field kind a.red in
        rw (writes-append w (k ++ j ++ n ++ t ++ p ++ c ++ f) (10 ∷ []), writes-append w (k ++ j ++ n ++ t ++ p ++ c) f, writes-append w (k ++ j ++ n ++ t ++ p) c, writes-append w (k ++ j ++ n ++ t) p, writes-append w (k ++ j ++ n) t, writes-append w (k ++ j) n, writes-append w k j, ← e1, ← e2, ← e3, ← e4, ← writes-append w4 p c, ← writes-append w4 (p ++ c) f, ← e5) e6

-- W8's field: two digits of `0a`, nothing of another kind
module _ (kind r : ℕ) where
  pub red-put : (w x : Wrote) → kind ≡ 10 → x ≡ writes w (hex 2 r) → x ≡ writes w (red_field kind r)
  red-put w x k e = rw (eq-eqb kind 10 k) e

  pub red-left-out : (w x : Wrote) → (kind ≡ 10 → ⊥) → x ≡ w → x ≡ writes w (red_field kind r)
  unfolding writes
  red-left-out w x k e = rw (ne_eqb kind 10 k) e

pub all-put : (w x y : Wrote) (ns : List ℤ) (rs : List ℕ) (n t : ℕ) → x ≡ writes w (joined node_line (items (node_at ns) 0 n)) →
    y ≡ writes x (joined row_line (items (row_at rs) 0 t)) → y ≡ writes w (all_lines ns rs n t)
unfolding all_lines
all-put w x y ns rs n t a b = then w x y (joined node_line (items (node_at ns) 0 n)) (joined row_line (items (row_at rs) 0 t)) a b
