-- The nodes of a split mesh: the old ones stay as they are; a new one's number tells the edge it halves, and its place is the exact
-- midpoint. Assumes nothing.
use Rattle.std.specs.Prelude.{true, List, [], ◌∷◌, map, ◌≢◌, ◌≡◌, refl, ℕ, zero, suc, min, max, ◌+◌, ◌-◌, ◌%◌, ◌≤◌, ◌<◌, ℤ, pos, nat_abs, ◌+ℤ◌, get_or, Option, None, Some}
use Rattle.std.proofs.Common.{sym, ◌∙◌, arith, eqb-true}
use Rattle.std.proofs.Math.Path.{subst⁻¹, ap}
use Rattle.std.proofs.Math.ListN.{length, length-append, get_or-append}
use Rattle.std.proofs.lemmas.List.{length-map}
use Rattle.std.proofs.Math.Seq.{get_or-append-add}
use Rattle.whole.specs.Ring.{K, ◌:+◌, ◌:*◌, ring1}
use Rattle.whole.specs.Half.{half-even}
use Rattle.lists.specs.Lists.{All}
use Rattle.lists.specs.ListsLaw.{and_left, and_right, All-get_or, WhereIs, nowhere, place_of, where-is}
use Rattle.meaning.specs.declared.Tri.{Tri}
use Rattle.meaning.specs.Mesh.{Mesh, Edge, edge, same_edge, origin, node_of, at}
use Rattle.meaning.specs.Lawful.{Named}
use Rattle.meaning.specs.Good.{Middle}
use Rattle.meaning.specs.Split.{Cutting, plus, number_of, even, half, halves, midpoint, new_node, split_at}
use Rattle.laws.specs.Area.{middle-either}
use Rattle.laws.specs.Edges.{same_edge-eq}
use Rattle.laws.specs.Cut.{MidOf, Centred, NewNode, Differ, Fresh}

-- ---- numbers

-- the edge whose midpoint has the number k
abbrev pub edge_at : ℕ → List Edge → ℕ → Edge
edge_at n s k = get_or s (k - n) (edge 0 0)

-- the number of the midpoint of a–b, if there is one, is n or above, below n', and tells the edge
abbrev pub Number : (ℕ → Edge) → ℕ → ℕ → ℕ → ℕ → Option ℕ → Type 0
Number E n n' a b None = Unit {0}
Number E n n' a b (Some k) = (n ≤ k) × (k < n') × (E k ≡ edge a b)

pub record Numbered (E : ℕ → Edge) (n n' : ℕ) (t : Tri) (o u v : Option ℕ) : Type 0 where
  pub on-qr : Number E n n' t.q t.r o
  pub on-pq : Number E n n' t.p t.q u
  pub on-rp : Number E n n' t.r t.p v

number-of : (n : ℕ) (s : List Edge) (a b : ℕ) → Number (edge_at n s) n (n + length s) a b (number_of n s (edge a b))
number-of n s a b = go (where-is (same_edge (edge a b)) s (edge 0 0))
  where
    go : {o : Option ℕ} → WhereIs (same_edge (edge a b)) s (edge 0 0) o → Number (edge_at n s) n (n + length s) a b (plus n o)
    go (nowhere h) = tt
    go (place_of i l t) =
        let k : n + i - n ≡ i = omega arith in
        (omega arith, omega arith, ap (λ j. get_or s j (edge 0 0)) k ∙ sym (same_edge-eq (edge a b) (get_or s i (edge 0 0)) t))

pub numbered : (n : ℕ) (s : List Edge) (t : Tri) →
    Numbered (edge_at n s) n (n + length s) t (number_of n s (edge t.q t.r)) (number_of n s (edge t.p t.q)) (number_of n s (edge t.r t.p))
numbered n s t = record { on-qr = number-of n s t.q t.r; on-pq = number-of n s t.p t.q; on-rp = number-of n s t.r t.p }

-- two edges that meet in b are two
pub edges-differ : (a b c : ℕ) → c ≢ a → edge a b ≡ edge b c → ⊥
edges-differ a b c ne e =
    let lo : min a b ≡ min b c = ap (λ d. d.lo) e in
    let hi : max a b ≡ max b c = ap (λ d. d.hi) e in
    omega arith

-- so a triangle's midpoints are new, and no two are one node
module _ (E : ℕ → Edge) (n n' : ℕ) where
  new-node : (a b : ℕ) (o : Option ℕ) → Number E n n' a b o → NewNode n n' o
  new-node a b None h = tt
  new-node a b (Some k) h = (h.0, h.1)

  two-nodes : (a b c d : ℕ) (o u : Option ℕ) → (edge a b ≡ edge c d → ⊥) → Number E n n' a b o → Number E n n' c d u → Differ o u
  two-nodes a b c d None u ne g h = tt
  two-nodes a b c d (Some k) None ne g h = tt
  two-nodes a b c d (Some k) (Some l) ne g h = λ w. ne (sym g.2 ∙ ap E w ∙ h.2)

pub fresh : {E : ℕ → Edge} {n n' : ℕ} {t : Tri} {o u v : Option ℕ} → Named n t → Numbered E n n' t o u v → Fresh n n' o u v
fresh {E} {n} {n'} {t} {o} {u} {v} a h = record {
  m-new = new-node E n n' t.q t.r o h.on-qr;
  u-new = new-node E n n' t.p t.q u h.on-pq;
  v-new = new-node E n n' t.r t.p v h.on-rp;
  m-u = two-nodes E n n' t.q t.r t.p t.q o u (λ e. edges-differ t.p t.q t.r a.r≢p (sym e)) h.on-qr h.on-pq;
  m-v = two-nodes E n n' t.q t.r t.r t.p o v (edges-differ t.q t.r t.p a.p≢q) h.on-qr h.on-rp;
  u-v = two-nodes E n n' t.p t.q t.r t.p u v (λ e. edges-differ t.r t.p t.q a.q≢r (sym e)) h.on-pq h.on-rp;
}

-- ---- places

pub twice_half : (z : ℤ) → even z ≡ true → half z +ℤ half z ≡ z
twice_half z e = ring1 (λ x. (x :+ x, K (pos 2) :* x)) (half z) tt ∙ half-even z (eqb-true (nat_abs z % 2) 0 e)

pub midpoint-middle : (m : Mesh) (e : Edge) → halves m e ≡ true → Middle (midpoint m e) (at m e.lo) (at m e.hi)
midpoint-middle m e t =
    let x = (at m e.lo).x +ℤ (at m e.hi).x in
    let y = (at m e.lo).y +ℤ (at m e.hi).y in
    record { x-middle = twice_half x (and_left (even x) (even y) t); y-middle = twice_half y (and_right (even x) (even y) t) }

get_d_map : {A B : Type 0} (f : A → B) (l : List A) (i : ℕ) (d : A) (d' : B) → i < length l → get_or (map f l) i d' ≡ f (get_or l i d)
get_d_map f [] i d d' h = absurd (omega arith)
get_d_map f (x ∷ xs) zero d d' h = refl
get_d_map f (x ∷ xs) (suc i) d d' h = get_d_map f xs i d d' (omega arith)

module _ (c : Cutting) (m : Mesh) (s : List Edge) where
  -- "Number new nodes from n upward": one for each split edge
  pub split_at-nodes : length (split_at c m s).nodes ≡ length m.nodes + length s
  unfolding split_at
  split_at-nodes = length-append m.nodes (map (new_node m) s) ∙ ap (λ k. length m.nodes + k) (length-map s (new_node m))

  -- an old node keeps its number and is as it was
  pub node-old : (k : ℕ) → k < length m.nodes → node_of (split_at c m s) k ≡ node_of m k
  unfolding split_at
  node-old k h = get_or-append m.nodes (map (new_node m) s) origin k h

  pub at_old : (k : ℕ) → k < length m.nodes → at (split_at c m s) k ≡ at m k
  at_old k h = ap (λ a. a.place) (node-old k h)

  -- a new one is that of its edge: it stands at the midpoint
  pub node-new : (i : ℕ) (d : Edge) → i < length s → node_of (split_at c m s) (length m.nodes + i) ≡ new_node m (get_or s i d)
  unfolding split_at
  node-new i d h = get_or-append-add m.nodes (map (new_node m) s) i origin ∙ get_d_map (new_node m) s i d origin h

  pub at_new : (i : ℕ) (d : Edge) → i < length s → at (split_at c m s) (length m.nodes + i) ≡ midpoint m (get_or s i d)
  at_new i d h = ap (λ a. a.place) (node-new i d h)

  mid-of : All (λ e. halves m e ≡ true) s → (a b : ℕ) → a < length m.nodes → b < length m.nodes →
      MidOf (split_at c m s) a b (number_of (length m.nodes) s (edge a b))
  mid-of h a b ha hb = go (where-is (same_edge (edge a b)) s (edge a b))
    where
      go : {o : Option ℕ} → WhereIs (same_edge (edge a b)) s (edge a b) o → MidOf (split_at c m s) a b (plus (length m.nodes) o)
      go (nowhere n) = tt
      go (place_of i l t) =
          let e = same_edge-eq (edge a b) (get_or s i (edge a b)) t in
          let g : halves m (edge a b) ≡ true = subst⁻¹ (λ d. halves m d ≡ true) e (All-get_or h i (edge a b) l) in
          let k = middle-either m (midpoint m (edge a b)) a b (midpoint-middle m (edge a b) g) in
          rw (at_new i (edge a b) l, ← e, at_old a ha, at_old b hb) k

  -- where every split edge has an exact midpoint, the midpoints of a triangle are what they are called
  pub centred : All (λ e. halves m e ≡ true) s → (t : Tri) → Named (length m.nodes) t →
      Centred (split_at c m s) t (number_of (length m.nodes) s (edge t.q t.r)) (number_of (length m.nodes) s (edge t.p t.q)) (number_of (length m.nodes) s (edge t.r t.p))
  centred h t a = record {
    on-qr = mid-of h t.q t.r a.q-below a.r-below;
    on-pq = mid-of h t.p t.q a.p-below a.q-below;
    on-rp = mid-of h t.r t.p a.r-below a.p-below;
  }
