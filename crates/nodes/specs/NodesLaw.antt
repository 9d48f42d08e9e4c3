-- The code's turns, in the form of their needs. Assumes nothing.
use Rattle.std.specs.Prelude.{◌≡◌, refl, Bool, true, false, not, ◌&&◌, List, ℕ, suc, ◌+◌, ◌*◌, ◌≤◌, ◌/◌, eqb, length, ℤ, pos, negsuc, nat_abs, ◌+ℤ◌}
use Rattle.std.proofs.Common.{sym, ap, ◌∙◌, subst, arith}
use Rattle.std.proofs.Math.Decide.{ℕ_discrete}
use Rattle.whole.specs.Bound.{abs-add, abs_neg}
use Rattle.lists.specs.Lists.{cases}
use Rattle.meaning.specs.declared.Node.{Node}
use Rattle.meaning.specs.declared.Place.{Place}
use Rattle.meaning.specs.declared.Tri.{Tri}
use Rattle.meaning.specs.Lawful.{InRange, NodeInRange}
use Rattle.meaning.specs.Split.{even, half}
use Rattle.meaning.specs.Tables.{node_at, place_at, row_at}
use Rattle.laws.specs.Mean.{mean-bounds}
use Rattle.laws.specs.Meshes.{Stands, Standing}
use Rattle.tables.specs.Put.{set_node}
use Rattle.tables.specs.PutLaw.{nodes-table}
use Rattle.notes.specs.declared.Note.{Note}
use Rattle.notes.specs.Notes.{note_at, own_m, own_u, own_v}
use Rattle.notes.specs.Met.{after}
use Rattle.nodes.specs.Nodes.{Near, even_between, middle_of, between, odd_split, place_edge, place_three, place_row}

-- ---- midpoints

pub even_is : (a b : Place) (r s : Bool) → r ≡ even (a.x +ℤ b.x) → s ≡ even (a.y +ℤ b.y) → r && s ≡ even_between a b
unfolding even_between
even_is a b r s p q = rw (p, q)

-- the midpoint of two places in range is in range
half-near : (z : ℤ) → nat_abs z ≤ 2_097_152 → nat_abs (half z) ≤ 1_048_576
half-near (pos n) h = omega arith
half-near (negsuc n) h = rw (abs_neg (pos (suc n / 2))) (omega arith)

middle-range : (a b : Place) → InRange a → InRange b → InRange (middle_of a b)
unfolding middle_of
middle-range a b p q = record {
  x-near = half-near (a.x +ℤ b.x) (abs-add a.x b.x p.x-near q.x-near);
  y-near = half-near (a.y +ℤ b.y) (abs-add a.y b.y p.y-near q.y-near);
}

-- ---- means

pub sum_near : (x y : ℤ) → Near 32_768 x → Near 32_768 y → Near 65_536 (x +ℤ y)
sum_near x y a b = record { near = abs-add x y a.near b.near }

-- the node between two nodes in range is in range
between-range : (a b : Node) → NodeInRange a → NodeInRange b → NodeInRange (between a b)
unfolding between
between-range a b p q = record {
  place_in = middle-range a.place b.place p.place_in q.place_in;
  correction-in = mean-bounds a.correction b.correction p.correction-in q.correction-in;
}

-- ---- corners

-- a node in range that is put keeps every corner
stands-put : (nodes : List ℤ) (k j : ℕ) (a : Node) → NodeInRange a → Stands nodes j → Stands (set_node nodes k a) j
stands-put nodes k j a r c = record { inside = rw (nodes-table.long nodes k a) c.inside; range = go (ℕ_discrete j k) }
  where
    go : Dec (j ≡ k) → NodeInRange (node_at (set_node nodes k a) j)
    go (yes e) = subst NodeInRange (sym (ap (node_at (set_node nodes k a)) e ∙ nodes-table.same nodes k a (let d = c.inside in omega arith))) r
    go (no o) = subst NodeInRange (sym (nodes-table.other nodes k j a o)) c.range

edge-stands : (nodes : List ℤ) (fst k x y j : ℕ) → Stands nodes x → Stands nodes y → Stands nodes j → Stands (place_edge fst k x y nodes) j
unfolding place_edge
edge-stands nodes fst k x y j p q c = go (eqb fst 1)
  where
    go : (b : Bool) → Stands (cases b (set_node nodes k (between (node_at nodes x) (node_at nodes y))) nodes) j
    go true = stands-put nodes k j (between (node_at nodes x) (node_at nodes y)) (between-range (node_at nodes x) (node_at nodes y) p.range q.range) c
    go false = c

pub edge-long : (nodes nodes' : List ℤ) (fst k x y : ℕ) → nodes' ≡ place_edge fst k x y nodes → length nodes' ≡ length nodes
unfolding place_edge
edge-long nodes nodes' fst k x y e = ap length e ∙ go (eqb fst 1)
  where
    go : (b : Bool) → length (cases b (set_node nodes k (between (node_at nodes x) (node_at nodes y))) nodes) ≡ length nodes
    go true = nodes-table.long nodes k (between (node_at nodes x) (node_at nodes y))
    go false = refl

pub edge-standing : (nodes nodes' : List ℤ) (fst k x y : ℕ) (w : Tri) → nodes' ≡ place_edge fst k x y nodes → Stands nodes x → Stands nodes y → Standing nodes w → Standing nodes' w
edge-standing nodes nodes' fst k x y w e p q c =
    let at : (j : ℕ) → Stands nodes j → Stands nodes' j = λ j d. subst (λ (l : List ℤ). Stands l j) (sym e) (edge-stands nodes fst k x y j p q d) in
    record { at_p = at w.p c.at_p; at-q = at w.q c.at-q; at-r = at w.r c.at-r }

pub row-standing : (n : ℕ) (nodes nodes' : List ℤ) (l s : List ℕ) (i : ℕ) (v : Tri) → nodes' ≡ place_row n l s i nodes → Standing nodes (row_at l i) → Standing nodes v → Standing nodes' v
unfolding place_row place_three
row-standing n nodes nodes' l s i v e c d =
    let w : Tri = row_at l i in
    let k : Note = note_at s i in
    let m₁ = place_edge k.fm (own_m n k) w.q w.r nodes in
    let m₂ = place_edge k.fu (own_u n k) w.p w.q m₁ in
    let one : (u : Tri) → Standing nodes u → Standing m₁ u = λ u. edge-standing nodes m₁ k.fm (own_m n k) w.q w.r u refl c.at-q c.at-r in
    let two : (u : Tri) → Standing nodes u → Standing m₂ u = λ u f. edge-standing m₁ m₂ k.fu (own_u n k) w.p w.q u refl (one w c).at_p (one w c).at-q (one u f) in
    edge-standing m₂ nodes' k.fv (own_v n k) w.r w.p v e (two w c).at-r (two w c).at_p (two v d)

-- ---- 8

pub odd_is : (nodes : List ℤ) (on x y : ℕ) (a b : Place) (r : Bool) → a ≡ place_at nodes x → b ≡ place_at nodes y → r ≡ even_between a b →
    not (eqb on 0) && not r ≡ odd_split nodes on x y
unfolding odd_split
odd_is nodes on x y a b r p q e = rw (← p, ← q, e)

-- ---- the new nodes

pub three-is : (n : ℕ) (w : Tri) (c : Note) (nodes m₁ m₂ m : List ℤ) (a b d : ℕ) →
    a ≡ own_m n c → m₁ ≡ place_edge c.fm a w.q w.r nodes →
    b ≡ own_u n c → m₂ ≡ place_edge c.fu b w.p w.q m₁ →
    d ≡ own_v n c → m ≡ place_edge c.fv d w.r w.p m₂ → m ≡ place_three n w c nodes
unfolding place_three
three-is n w c nodes m₁ m₂ m a b d e p f q g r =
    r ∙ ap (λ k. place_edge c.fv k w.r w.p m₂) g
    ∙ ap (place_edge c.fv (own_v n c) w.r w.p)
    (q ∙ ap (λ k. place_edge c.fu k w.p w.q m₁) f
    ∙ ap (place_edge c.fu (own_u n c) w.p w.q) (p ∙ ap (λ k. place_edge c.fm k w.q w.r nodes) e))

pub row_is : (n : ℕ) (l s : List ℕ) (i : ℕ) (nodes m : List ℤ) (w : Tri) (c : Note) → w ≡ row_at l i → c ≡ note_at s i → m ≡ place_three n w c nodes → m ≡ place_row n l s i nodes
unfolding place_row
row_is n l s i nodes m w c p q e = rw (← p, ← q) e

-- room for all new nodes of a row is room for its last
pub room-v : (n a len len' : ℕ) (c : Note) → a ≡ own_v n c → len' ≡ len → 4 * after n c ≤ len → 4 * (a + c.fv) ≤ len'
room-v n a len len' c e d h = omega arith

pub room_of : (n : ℕ) (s : List ℕ) (i len : ℕ) (c : Note) → c ≡ note_at s i → 4 * after n (note_at s i) ≤ len → 4 * after n c ≤ len
room_of n s i len c e h = rw e h
