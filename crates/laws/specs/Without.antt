-- Taking nodes that meet G1 to G4, with a pair each of its own, out of a lawful mesh leaves a lawful mesh of the same total.
-- Assumes nothing.
--
-- Names: a father's corners are corners of its brothers, and not their newest vertex, so they stay. Directed edges: a→b and c→a were the
-- brothers'; b→c is new, no old row holds it (G4), no other node that goes makes it, and the other father of this one makes c→b.
-- Area: the father has the brothers' twice-areas. Used: a node that stays and was a corner of a brother is a corner of the father.
-- All this is said of the rows with their old numbers first; the new numbers change no node's place, and no two nodes get one.
use Rattle.std.specs.Prelude.{Bool, not, ◌≡◌, ℕ, ◌+◌, ◌≤◌, ◌<◌, eqb, ltb, ℤ, negsuc, ◌+ℤ◌, ◌<ℤ◌}
use Rattle.std.proofs.Math.Bool.{true, false}
use mathlib.Core.List.{List, map, Memᴰ}
use Rattle.std.proofs.Math.Path.{refl, sym, subst, subst⁻¹, ap}
use Rattle.std.proofs.Common.{ap₂, ◌∙◌, eqb-true, eq-eqb, ltb-true, ltb-false}
use native.Mathlib.Omega.{arith}
use Rattle.std.proofs.Math.IntN.{pos, nat_abs}
use Rattle.std.proofs.Math.ListN.{length, length-map}
use Rattle.lists.specs.Lists.{any, count, joined, All, nil, cons}
use Rattle.lists.specs.ListsLaw.{clash, All-imp, All-at, All-of, All-map, any_at, any-row, any_none}
use Rattle.lists.specs.Tally.{bit, bit_le, tally, tally-le, tally-eq, tally-add, tally-zero, tally-map, tally-joined, tally-length, bits_none}
use Rattle.meaning.specs.declared.Tri.{Tri}
use Rattle.meaning.specs.Mesh.{Mesh, Edge, Arrow, arrow, arrows, edge, edges, origin, same_edge, same_arrow, holds_node, holds_edge, node_of, at, twice_area, sum, total}
use Rattle.meaning.specs.Lawful.{NodeInRange, Named, Lawful}
use Rattle.meaning.specs.Good.{Brothers, father, pairs, span}
use Rattle.meaning.specs.Coarsen.{fate, stays, renumber, renamed, without}
use Rattle.laws.specs.Edges.{same_edge-eq, same_edge-refl, hit, hits, count-arrows, hit-no, hit-le, holds-p, holds-q, holds-r, here, here-no, here-le, names, count-names, names-count}
use Rattle.laws.specs.Stay.{renumber-lt, renumber-one, staying-length, staying-at, staying-onto, staying-all}
use Rattle.laws.specs.Pairs.{arrows-once}
use Rattle.laws.specs.Star.{Pair, Star, opposed, father-area, father-positive, father-named}
use Rattle.laws.specs.CoarsenRows.{Takeable, touched, brood, newest-of, before, after, after-all, broods}

-- ---- the nodes that are left

module _ (m : Mesh) (zs : List ℕ) where
  pub without-length : length (without m zs).nodes ≡ renumber zs (length m.nodes)
  unfolding without
  without-length = staying-length zs 0 m.nodes

  -- a node that stays is as it was, and gets a number of the new mesh
  pub without-node : (k : ℕ) → k < length m.nodes → stays zs k ≡ true → node_of (without m zs) (renumber zs k) ≡ node_of m k
  unfolding without
  without-node k h s = staying-at zs m.nodes origin k h s

  pub without_at : (k : ℕ) → k < length m.nodes → stays zs k ≡ true → at (without m zs) (renumber zs k) ≡ at m k
  without_at k h s = ap (λ a. a.place) (without-node k h s)

  pub without-below : (k : ℕ) → k < length m.nodes → stays zs k ≡ true → renumber zs k < length (without m zs).nodes
  without-below k h s = let a = renumber-lt zs k (length m.nodes) h s in let b = without-length in omega arith

  -- and every node of the new mesh is such a one
  pub without-onto : (j : ℕ) → j < length (without m zs).nodes → (k : ℕ) × (k < length m.nodes) × (stays zs k ≡ true) × (renumber zs k ≡ j)
  unfolding without
  without-onto j h = staying-onto zs m.nodes j h

  without-range : All NodeInRange m.nodes → All NodeInRange (without m zs).nodes
  unfolding without
  without-range h = staying-all zs 0 h

-- ---- sums of what is above 0

above-nat : (a : ℤ) → pos 0 <ℤ a → a ≡ pos (nat_abs a)
above-nat (pos k) h = refl
above-nat (negsuc k) h = absurd h.lt

sum-nat : (f : Tri → ℤ) {ts : List Tri} → All (λ t. pos 0 <ℤ f t) ts → sum f ts ≡ pos (tally (λ t. nat_abs (f t)) ts)
sum-nat f nil = refl
sum-nat f (cons {x = t} h hs) = ap₂ ◌+ℤ◌ (above-nat (f t) h) (sum-nat f hs)

nat-add : (a b c : ℤ) → pos 0 <ℤ a → pos 0 <ℤ b → a +ℤ b ≡ c → nat_abs c ≡ nat_abs a + nat_abs b
nat-add a b c h k e = sym (ap nat_abs (ap₂ ◌+ℤ◌ (sym (above-nat a h)) (sym (above-nat b k)) ∙ e))

sum-map : (f g : Tri → ℤ) (k : Tri → Tri) {ts : List Tri} → All (λ t. f (k t) ≡ g t) ts → sum f (map k ts) ≡ sum g ts
sum-map f g k nil = refl
sum-map f g k (cons h hs) = ap₂ ◌+ℤ◌ h (sum-map f g k hs)

-- ---- the rows after, with the old numbers

-- a row of three nodes that stay
pub record Sound (m : Mesh) (zs : List ℕ) (t : Tri) : Type 0 where
  pub named : Named (length m.nodes) t
  pub p-stays : stays zs t.p ≡ true
  pub q-stays : stays zs t.q ≡ true
  pub r-stays : stays zs t.r ≡ true
  pub above : pos 0 <ℤ twice_area m t

stays-not : (zs : List ℕ) (z k : ℕ) → Memᴰ z zs → stays zs k ≡ true → z ≡ k → ⊥
stays-not zs z k i s e = clash (sym s ∙ ap not (any_at (eqb k) (eq-eqb k z (sym e)) i))

module _ (m : Mesh) (zs : List ℕ) (law : Lawful m) (ok : Takeable m zs) where
  -- a corner stays, unless it is the newest vertex
  corner-stays : (t : Tri) (k : ℕ) → Memᴰ t m.tris → holds_node k t ≡ true → (t.p ≡ k → ⊥) → stays zs k ≡ true
  corner-stays t k j h ne = go (any (eqb k) zs) refl
    where
      go : (b : Bool) → any (eqb k) zs ≡ b → not b ≡ true
      go true e =
          let r = any-row (eqb k) zs e in
          let w = eqb-true k r.0 r.2 in
          absurd (ne (newest-of m zs law ok r.0 t r.1 j (subst (λ y. holds_node y t ≡ true) w h) ∙ sym w))
      go false e = refl

  untouched-stays : (t : Tri) (k : ℕ) → touched zs t ≡ false → holds_node k t ≡ true → stays zs k ≡ true
  untouched-stays t k n h = go (any (eqb k) zs) refl
    where
      go : (b : Bool) → any (eqb k) zs ≡ b → not b ≡ true
      go true e =
          let r = any-row (eqb k) zs e in
          let w = eqb-true k r.0 r.2 in
          clash (sym (any_at (λ z. holds_node z t) (subst (λ y. holds_node y t ≡ true) w h) r.1) ∙ n)
      go false e = refl

  -- the father's corners stay: each is a corner of a brother, and not its newest vertex
  father-sound : {b : Brothers} → (z : ℕ) × Memᴰ z zs × Pair m z b → Sound m zs (father b)
  father-sound {b} s =
      let z = s.0 in
      let h = s.2 in
      let l = All-at law.named h.left-row in
      let r = All-at law.named h.right-row in
      record {
        named = father-named m z h law;
        p-stays = corner-stays b.left b.left.q h.left-row (holds-q b.left) l.p≢q;
        q-stays = corner-stays b.left b.left.r h.left-row (holds-r b.left) (λ w. l.r≢p (sym w));
        r-stays = corner-stays b.right b.right.q h.right-row (holds-q b.right) r.p≢q;
        above = father-positive m z h law;
      }

  rows-after : List Tri
  rows-after = joined (fate (brood m zs)) m.tris

  sound : All (Sound m zs) rows-after
  unfolding rows-after
  sound = after-all m zs law ok (All-imp (λ b. father-sound) (broods m zs law ok)) one
    where
      one : (t : Tri) → Memᴰ t m.tris → touched zs t ≡ false → Sound m zs t
      one t j n = record {
        named = All-at law.named j;
        p-stays = untouched-stays t t.p n (holds-p t);
        q-stays = untouched-stays t t.q n (holds-q t);
        r-stays = untouched-stays t t.r n (holds-r t);
        above = All-at law.positive j;
      }

  pub rows-sound : All (Sound m zs) (joined (fate (brood m zs)) m.tris)
  unfolding rows-after
  rows-sound = sound

  -- ---- no directed edge occurs twice

  -- a row that does not hold the edge x–y does not hold x→y
  no_hit : (e : Arrow) (t : Tri) → holds_edge (edge e.from e.to) t ≡ false → hits e t ≡ 0
  no_hit e t n =
      let E = edge e.from e.to in
      let h = any_none (same_edge E) (edges t) n in
      let a = hit-no e t.p t.q (λ x y. clash (sym (same x y) ∙ All-at h (Memᴰ.tail (Memᴰ.head refl)))) in
      let b = hit-no e t.q t.r (λ x y. clash (sym (same x y) ∙ All-at h (Memᴰ.head refl))) in
      let c = hit-no e t.r t.p (λ x y. clash (sym (same x y) ∙ All-at h (Memᴰ.tail (Memᴰ.tail (Memᴰ.head refl))))) in
      omega arith
    where
      same : {a b : ℕ} → e.from ≡ a → e.to ≡ b → same_edge (edge e.from e.to) (edge a b) ≡ true
      same x y = subst (λ d. same_edge (edge e.from e.to) d ≡ true) (ap₂ edge x y) (same_edge-refl (edge e.from e.to))

  -- the new edges b→c of one node
  new-hits : Arrow → ℕ → ℕ
  new-hits e z = tally (λ b. hit e b.left.r b.right.q) (pairs m z)

  new-hits-le : (e : Arrow) (z : ℕ) → Star m z → new-hits e z ≤ bit (same_edge (edge e.from e.to) (span m z))
  unfolding new-hits
  new-hits-le e z s = go (same_edge (edge e.from e.to) (span m z)) refl
    where
      go : (b : Bool) → same_edge (edge e.from e.to) (span m z) ≡ b → tally (λ b. hit e b.left.r b.right.q) (pairs m z) ≤ bit b
      go true w = opposed m z law s e
      go false w =
          let h = tally-zero (λ b. hit e b.left.r b.right.q) (All-imp (λ b p. hit-no e b.left.r b.right.q (λ x y. clash (sym (is b p x y) ∙ w))) s.pair) in
          omega arith
        where
          is : (b : Brothers) → Pair m z b → e.from ≡ b.left.r → e.to ≡ b.right.q → same_edge (edge e.from e.to) (span m z) ≡ true
          is b p x y = subst (λ d. same_edge (edge e.from e.to) d ≡ true) (ap₂ edge x y ∙ p.ends) (same_edge-refl (edge e.from e.to))

  -- an old arrow, or one new one
  old-or-new : (e : Arrow) → tally (hits e) m.tris + tally (new-hits e) zs ≤ 1
  old-or-new e = go (any (λ z. same_edge E (span m z)) zs) refl
    where
      E : Edge
      E = edge e.from e.to

      le : tally (new-hits e) zs ≤ tally (λ z. bit (same_edge E (span m z))) zs
      le = tally-le (new-hits e) (λ z. bit (same_edge E (span m z))) (All-imp (new-hits-le e) ok.stars)

      go : (b : Bool) → any (λ z. same_edge E (span m z)) zs ≡ b → tally (hits e) m.tris + tally (new-hits e) zs ≤ 1
      go false w =
          let a = arrows-once m law e in
          let c = bits_none (λ z. same_edge E (span m z)) (λ z. 1) (any_none (λ z. same_edge E (span m z)) zs w) in
          let d = le in
          omega arith
      go true w =
          let r = any-row (λ z. same_edge E (span m z)) zs w in
          let y = same_edge-eq E (span m r.0) r.2 in
          let a = tally-zero (hits e) (All-imp (λ t n. no_hit e t (subst⁻¹ (λ d. holds_edge d t ≡ false) y n)) (All-at ok.stars r.1).no_edge) in
          let b = tally-le (λ z. bit (same_edge E (span m z))) (λ z. bit (eqb r.0 z)) (All-of zs (λ z i. bit_le (same_edge E (span m z)) (eqb r.0 z) (λ q. eq-eqb r.0 z (ok.apart r.0 z r.1 i (sym y ∙ same_edge-eq E (span m z) q))))) in
          let c = ok.once r.0 in
          let d = le in
          omega arith

  after-once : (e : Arrow) → tally (hits e) rows-after ≤ 1
  unfolding rows-after new-hits
  after-once e =
      let a = before m zs law ok (hits e) in
      let b = after m zs law ok (hits e) in
      let c = tally-le (λ b. hits e (father b)) (λ b. (hits e b.left + hits e b.right) + hit e b.left.r b.right.q) (All-imp (λ b s. one b s.2.joint) (broods m zs law ok)) in
      let d = tally-add (λ b. hits e b.left + hits e b.right) (λ b. hit e b.left.r b.right.q) (brood m zs) in
      let f = tally-joined (λ b. hit e b.left.r b.right.q) (pairs m) zs in
      let g = old-or-new e in
      omega arith
    where
      one : (b : Brothers) → b.right.r ≡ b.left.q → hits e (father b) ≤ (hits e b.left + hits e b.right) + hit e b.left.r b.right.q
      one b w = let k = ap (hit e b.right.q) w in omega arith

  -- ---- every node is used

  after-used : (k : ℕ) → k < length m.nodes → stays zs k ≡ true → 1 ≤ tally (names k) rows-after
  unfolding rows-after
  after-used k h s =
      let a = before m zs law ok (names k) in
      let b = after m zs law ok (names k) in
      let c = tally-le (λ b. names k b.left + names k b.right) (λ b. names k (father b) + names k (father b)) (All-imp one (broods m zs law ok)) in
      let d = tally-add (λ b. names k (father b)) (λ b. names k (father b)) (brood m zs) in
      let f = law.used k h in
      let g = count-names k m.tris in
      omega arith
    where
      one : (b : Brothers) → (z : ℕ) × Memᴰ z zs × Pair m z b → names k b.left + names k b.right ≤ names k (father b) + names k (father b)
      one b p =
          let x = here-no k b.left.p (λ w. stays-not zs p.0 k p.1 s (sym p.2.left-p ∙ w)) in
          let y = here-no k b.right.p (λ w. stays-not zs p.0 k p.1 s (sym p.2.right-p ∙ w)) in
          let v = ap (here k) p.2.joint in
          omega arith

  -- ---- the total

  after-total : sum (twice_area m) rows-after ≡ sum (twice_area m) m.tris
  unfolding rows-after
  after-total =
      let a = before m zs law ok (λ t. nat_abs (twice_area m t)) in
      let b = after m zs law ok (λ t. nat_abs (twice_area m t)) in
      let c = tally-eq (λ b. nat_abs (twice_area m (father b))) (λ b. nat_abs (twice_area m b.left) + nat_abs (twice_area m b.right)) (All-imp (λ b s. one b s.0 s.2) (broods m zs law ok)) in
      sum-nat (twice_area m) (All-imp (λ t h. h.above) sound) ∙ ap pos (omega arith) ∙ sym (sum-nat (twice_area m) law.positive)
    where
      one : (b : Brothers) (z : ℕ) → Pair m z b → nat_abs (twice_area m (father b)) ≡ nat_abs (twice_area m b.left) + nat_abs (twice_area m b.right)
      one b z h = nat-add (twice_area m b.left) (twice_area m b.right) (twice_area m (father b)) (All-at law.positive h.left-row) (All-at law.positive h.right-row) (father-area m z h)

  -- ---- the rows after, with the new numbers

  new-named : (t : Tri) → Sound m zs t → Named (length (without m zs).nodes) (renamed zs t)
  new-named t h =
      let n = h.named in
      record {
        p-below = without-below m zs t.p n.p-below h.p-stays;
        q-below = without-below m zs t.q n.q-below h.q-stays;
        r-below = without-below m zs t.r n.r-below h.r-stays;
        p≢q = λ w. n.p≢q (renumber-one zs t.p t.q h.p-stays h.q-stays w);
        q≢r = λ w. n.q≢r (renumber-one zs t.q t.r h.q-stays h.r-stays w);
        r≢p = λ w. n.r≢p (renumber-one zs t.r t.p h.r-stays h.p-stays w);
      }

  new-area : (t : Tri) → Sound m zs t → twice_area (without m zs) (renamed zs t) ≡ twice_area m t
  unfolding twice_area
  new-area t h =
      let n = h.named in
      rw (without_at m zs t.p n.p-below h.p-stays, without_at m zs t.q n.q-below h.q-stays, without_at m zs t.r n.r-below h.r-stays)

  new-rows : (without m zs).tris ≡ map (renamed zs) rows-after
  unfolding without rows-after
  new-rows = refl

  -- an arrow of the new mesh is one old arrow, renumbered
  new-once : (e : Arrow) → count (same_arrow e) (joined arrows (without m zs).tris) ≤ 1
  new-once e =
      let a = count-arrows e (without m zs).tris in
      let b : tally (hits e) (without m zs).tris ≡ tally (λ t. hits e (renamed zs t)) rows-after = ap (tally (hits e)) new-rows ∙ tally-map (hits e) (renamed zs) rows-after in
      let c = go (ltb e.from n') refl (ltb e.to n') refl in
      omega arith
    where
      n' : ℕ
      n' = length (without m zs).nodes

      -- an end that no node of the new mesh has
      beyond : ((t : Tri) → Sound m zs t → (a b : ℕ) → a < n' → b < n' → e.from ≡ a → e.to ≡ b → ⊥) → tally (λ t. hits e (renamed zs t)) rows-after ≤ 1
      beyond f =
          let z = tally-zero (λ t. hits e (renamed zs t)) (All-imp one sound) in
          omega arith
        where
          one : (t : Tri) → Sound m zs t → hits e (renamed zs t) ≡ 0
          one t h =
              let n = new-named t h in
              let x = hit-no e (renumber zs t.p) (renumber zs t.q) (f t h _ _ n.p-below n.q-below) in
              let y = hit-no e (renumber zs t.q) (renumber zs t.r) (f t h _ _ n.q-below n.r-below) in
              let z = hit-no e (renumber zs t.r) (renumber zs t.p) (f t h _ _ n.r-below n.p-below) in
              omega arith

      go : (x : Bool) → ltb e.from n' ≡ x → (y : Bool) → ltb e.to n' ≡ y → tally (λ t. hits e (renamed zs t)) rows-after ≤ 1
      go false x y w = let g = ltb-false e.from n' x in beyond (λ t h a b an bn p q. omega arith)
      go true x false w = let g = ltb-false e.to n' w in beyond (λ t h a b an bn p q. omega arith)
      go true x true w =
          let k = without-onto m zs e.from (ltb-true e.from n' x) in
          let l = without-onto m zs e.to (ltb-true e.to n' w) in
          let d = arrow k.0 l.0 in
          let z = tally-le (λ t. hits e (renamed zs t)) (hits d) (All-imp (one k l) sound) in
          let u = after-once d in
          omega arith
        where
          one : (k : (k : ℕ) × (k < length m.nodes) × (stays zs k ≡ true) × (renumber zs k ≡ e.from)) (l : (k : ℕ) × (k < length m.nodes) × (stays zs k ≡ true) × (renumber zs k ≡ e.to)) →
              (t : Tri) → Sound m zs t → hits e (renamed zs t) ≤ hits (arrow k.0 l.0) t
          one k l t h =
              let x = side t.p t.q h.p-stays h.q-stays in
              let y = side t.q t.r h.q-stays h.r-stays in
              let z = side t.r t.p h.r-stays h.p-stays in
              omega arith
            where
              side : (a b : ℕ) → stays zs a ≡ true → stays zs b ≡ true → hit e (renumber zs a) (renumber zs b) ≤ hit (arrow k.0 l.0) a b
              side a b p q = hit-le e (arrow k.0 l.0) (renumber zs a) (renumber zs b) a b λ x y.
                  (renumber-one zs k.0 a k.2 p (k.3 ∙ x), renumber-one zs l.0 b l.2 q (l.3 ∙ y))

  new-used : (z : ℕ) → z < length (without m zs).nodes → 1 ≤ count (holds_node z) (without m zs).tris
  new-used z h =
      let k = without-onto m zs z h in
      let a = after-used k.0 k.1 k.2 in
      let b : tally (names z) (without m zs).tris ≡ tally (λ t. names z (renamed zs t)) rows-after = ap (tally (names z)) new-rows ∙ tally-map (names z) (renamed zs) rows-after in
      let c = tally-le (names k.0) (λ t. names z (renamed zs t)) (All-of rows-after (λ t i. one k.0 k.3 t)) in
      let d = names-count z (without m zs).tris in
      omega arith
    where
      one : (k : ℕ) → renumber zs k ≡ z → (t : Tri) → names k t ≤ names z (renamed zs t)
      one k w t =
          let x = here-le k z t.p (renumber zs t.p) (λ e. ap (renumber zs) e ∙ w) in
          let y = here-le k z t.q (renumber zs t.q) (λ e. ap (renumber zs) e ∙ w) in
          let v = here-le k z t.r (renumber zs t.r) (λ e. ap (renumber zs) e ∙ w) in
          omega arith

  -- ---- the two laws of taking nodes out

  pub without-lawful : Lawful (without m zs)
  without-lawful = record {
    range = without-range m zs law.range;
    named = subst⁻¹ (All (Named (length (without m zs).nodes))) new-rows (All-map (renamed zs) (All-imp new-named sound));
    no_twice = new-once;
    positive = subst⁻¹ (All (λ t. pos 0 <ℤ twice_area (without m zs) t)) new-rows
        (All-map (renamed zs) (All-imp (λ t h. subst⁻¹ (λ a. pos 0 <ℤ a) (new-area t h) h.above) sound));
    used = new-used;
  }

  pub without-total : total (without m zs) ≡ total m
  unfolding total
  without-total =
      ap (sum (twice_area (without m zs))) new-rows ∙ sum-map (twice_area (without m zs)) (twice_area m) (renamed zs) (All-imp new-area sound) ∙ after-total

  -- ---- the counts

  -- each pair of brothers is one row afterwards
  pub without-rows : length (without m zs).tris + length (brood m zs) ≡ length m.tris
  unfolding rows-after
  without-rows =
      let a = before m zs law ok (λ t. 1) in
      let b = after m zs law ok (λ t. 1) in
      let c = tally-length m.tris in
      let d = tally-length rows-after in
      let e = tally-length (brood m zs) in
      let f = tally-add {A = Brothers} (λ b. 1) (λ b. 1) (brood m zs) in
      let g : length (without m zs).tris ≡ length rows-after = ap length new-rows ∙ length-map rows-after (renamed zs) in
      omega arith
