-- W6 and W7: refining by bisection keeps what is told of every point, where the corrections of the two ends of every split edge have even sums: then
-- the mean that a new node carries is exact (W5 rounds it down). Assumes nothing.
use Rattle.std.specs.Prelude.{true, ◌≡◌, refl, ℕ, ◌+◌, ◌<◌, ℤ, ◌+ℤ◌, length, get_or, Option, None, Some}
use mathlib.Core.List.Memᴰ
use mathlib.Core.List.{List, map, Memᴰ}
use Rattle.std.proofs.Math.Path.{sym, ap}
use Rattle.std.proofs.Common.{◌∙◌, arith}
use Rattle.std.proofs.Math.IntN.{pos}
use Rattle.lists.specs.Lists.{all, joined, All}
use Rattle.lists.specs.ListsLaw.{All-get_or, All-imp, all_yes, WhereIs, nowhere, place_of, where-is}
use Rattle.lists.specs.MembersLaw.{joined_in}
use Rattle.whole.specs.Diff.{onℤ}
use Rattle.whole.specs.Ring.{K, ◌:+◌, ◌:*◌, ring1}
use Rattle.meaning.specs.declared.Correction.{Correction}
use Rattle.meaning.specs.declared.Node.{Node}
use Rattle.meaning.specs.declared.Tri.{Tri}
use Rattle.meaning.specs.Mesh.{Mesh, Edge, edge, same_edge, node_of}
use Rattle.meaning.specs.Lawful.{Named, Lawful}
use Rattle.meaning.specs.Rounding.{floor}
use Rattle.meaning.specs.Split.{Cut, bisected, even, half, plus, number_of, halves, mean, split_edges, split}
use Rattle.meaning.specs.Asking.{dx_of, dy_of}
use Rattle.laws.specs.Area.{ends-sum}
use Rattle.laws.specs.Floor.{floor-exact}
use Rattle.laws.specs.Edges.{same_edge-eq}
use Rattle.laws.specs.Cut.{MidOf, parts}
use Rattle.laws.specs.Midpoints.{twice_half, centred}
use Rattle.laws.specs.SplitLaw.{cut_rows, split-old, split-new}
use Rattle.proper.specs.Fine.{Mean}
use Rattle.points.specs.Halves.{HalfwayIf, Halved}

-- ---- exact means

-- the sums of the corrections of the two ends of edge e are even, in each part
pub record EvenEnds (m : Mesh) (e : Edge) : Type 0 where
  pub even-dx : even (dx_of m e.lo +ℤ dx_of m e.hi) ≡ true
  pub even-dy : even (dy_of m e.lo +ℤ dy_of m e.hi) ≡ true

twice-floor : (z : ℤ) → even z ≡ true → floor z (pos 2) +ℤ floor z (pos 2) ≡ z
twice-floor z e =
    let h = twice_half z e in
    let k = floor-exact {s = z} {d = pos 2} (omega (arith, onℤ)) (half z) (sym h ∙ ring1 (λ x. (x :+ x, x :* K (pos 2))) (half z) tt) in
    (λ j. k j +ℤ k j) ∙ h

-- g is f on the nodes below n, and on n + i the floor of the mean of the ends of the i-th edge, whose sum is even
mean-if : (f g : ℕ → ℤ) (n : ℕ) (s : List Edge) → ((k : ℕ) → k < n → g k ≡ f k) →
    ((i : ℕ) → i < length s → g (n + i) ≡ floor (f (get_or s i (edge 0 0)).lo +ℤ f (get_or s i (edge 0 0)).hi) (pos 2)) →
    All (λ e. even (f e.lo +ℤ f e.hi) ≡ true) s → (a b : ℕ) → a < n → b < n → Mean g a b (number_of n s (edge a b))
mean-if f g n s old new evens a b ha hb = go (where-is (same_edge (edge a b)) s (edge 0 0))
  where
    go : {o : Option ℕ} → WhereIs (same_edge (edge a b)) s (edge 0 0) o → Mean g a b (plus n o)
    go (nowhere h) = tt
    go (place_of i l t) =
        (λ j. new i l j +ℤ new i l j)
        ∙ twice-floor (f (get_or s i (edge 0 0)).lo +ℤ f (get_or s i (edge 0 0)).hi) (All-get_or evens i (edge 0 0) l)
        ∙ sym (ap (λ (e : Edge). f e.lo +ℤ f e.hi) (same_edge-eq (edge a b) (get_or s i (edge 0 0)) t))
        ∙ ends-sum f a b
        ∙ sym (λ j. old a ha j +ℤ old b hb j)

halfway-if : (M : Mesh) (a b : ℕ) (o : Option ℕ) → MidOf M a b o → Mean (dx_of M) a b o → Mean (dy_of M) a b o → HalfwayIf M a b o
halfway-if M a b None h x y = tt
halfway-if M a b (Some k) h x y = record { in_place = h; in-dx = x; in-dy = y }

-- ---- a mesh split by bisection

-- a row of the cut of a row is among the rows of all cuts
pub in-cuts : (c : Tri → Cut) {t k : Tri} {ts : List Tri} → Memᴰ t ts → Memᴰ k (parts (c t)) → Memᴰ k (cut_rows c ts)
in-cuts c {ts = ts} i (Memᴰ.head e) = Memᴰ.cast e (Memᴰ.append_left (joined (λ t. (c t).added) ts) (Memᴰ.map (λ t. (c t).kept) i))
in-cuts c {ts = ts} i (Memᴰ.tail j) = Memᴰ.append_right (map (λ t. (c t).kept) ts) (joined_in (λ t. (c t).added) i j)

module _ (m : Mesh) (start : List Edge) (law : Lawful m) (exact : all (halves m) (split_edges m start) ≡ true) (evens : All (EvenEnds m) (split_edges m start)) where
  abbrev n : ℕ
  n = length m.nodes

  abbrev S : List Edge
  S = split_edges m start

  abbrev num : ℕ → ℕ → Option ℕ
  num a b = number_of (length m.nodes) (split_edges m start) (edge a b)

  abbrev after_mesh : Mesh
  after_mesh = split bisected m start

  -- the midpoints of a row's edges are half-way, in place and in what they carry
  pub halved : (t : Tri) → Named (length m.nodes) t → Halved after_mesh t (num t.q t.r) (num t.p t.q) (num t.r t.p)
  unfolding split
  halved t N =
      let C = centred bisected m S (all_yes (halves m) S exact) t N in
      record {
        on-qr = halfway t.q t.r N.q-below N.r-below C.on-qr;
        on-pq = halfway t.p t.q N.p-below N.q-below C.on-pq;
        on-rp = halfway t.r t.p N.r-below N.p-below C.on-rp;
      }
    where
      -- of a part of what a node carries
      carried : (part : Correction → ℤ) → ((c d : Correction) → part (mean c d) ≡ floor (part c +ℤ part d) (pos 2)) →
          All (λ e. even (part (node_of m e.lo).correction +ℤ part (node_of m e.hi).correction) ≡ true) S →
          (a b : ℕ) → a < n → b < n → Mean (λ k. part (node_of after_mesh k).correction) a b (num a b)
      carried part is evens =
          mean-if (λ k. part (node_of m k).correction) (λ k. part (node_of after_mesh k).correction) n S (λ k l. ap (λ (d : Node). part d.correction) (split-old bisected m start k l))
          (λ i l. ap (λ (d : Node). part d.correction) (split-new bisected m start i (edge 0 0) l)
          ∙ is (node_of m (get_or S i (edge 0 0)).lo).correction (node_of m (get_or S i (edge 0 0)).hi).correction) evens

      halfway : (a b : ℕ) → a < n → b < n → MidOf after_mesh a b (num a b) → HalfwayIf after_mesh a b (num a b)
      halfway a b ha hb h =
          halfway-if after_mesh a b (num a b) h
          (carried (λ c. c.dx) (λ c d. refl) (All-imp (λ e x. x.even-dx) evens) a b ha hb) (carried (λ c. c.dy) (λ c d. refl) (All-imp (λ e x. x.even-dy) evens) a b ha hb)
