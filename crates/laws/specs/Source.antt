-- Every arrow that a cut may have comes from one arrow of the old mesh, its source, and the source can be told from the arrow's two ends
-- alone, whatever row it stands in. With k the midpoint of a–b:
--   an old arrow a→b comes from itself, its halves a→k and k→b come from a→b;
--   a half-way arrow k→z or z→k, z a node off a–b, comes from the one of a→b and b→a that has z on its left;
--   an arrow k→l between two midpoints comes from the one of a→b and b→a that has on its left the end of l's edge that is off a–b.
-- In a row every inner arrow that starts at the midpoint of one of its arrows (and p→m too) so has that arrow as its source, for the row
-- is on its left: this is where the twice-area above 0 is used. Different arrows of one row that have one source differ in an end, so
-- at most one of them is a given arrow. Hence: a row allows an arrow at most as often as it has the arrow's source. Assumes nothing.
use Rattle.std.specs.Prelude.{Bool, true, false, ◌||◌, ◌≢◌, ◌≡◌, ℕ, min, max, ◌+◌, ◌-◌, ◌≤◌, ◌<◌, eqb, leb, ltb, ℤ, ◌<ℤ◌, ◌≤ℤ◌, Option, None, Some}
use Rattle.std.proofs.Math.Path.{refl}
use Rattle.std.proofs.Common.{sym, subst, ap, ◌∙◌, arith}
use Rattle.std.proofs.Math.IntN.{pos, neg_ℤ}
use Rattle.std.specs.Int.Signed.{lt_z}
use borrow.Author.Tests.{eq-eqb, ne_eqb, leb-true, leb-false, ltb-true, ltb-false, lt-ltb, le-ltb}
use Rattle.whole.specs.Diff.{onℤ, negℤ-ud}
use Rattle.whole.specs.Tests.{lt-lt_z, le-lt_z}
use Rattle.lists.specs.Lists.{cases, suc_if}
use Rattle.lists.specs.ListsLaw.{or_left, or_right}
use Rattle.meaning.specs.declared.Place.{Place}
use Rattle.meaning.specs.declared.Tri.{Tri}
use Rattle.meaning.specs.Mesh.{Edge, Arrow, edge, arrow, same_arrow, turn}
use Rattle.meaning.specs.Lawful.{Named}
use Rattle.laws.specs.Area.{turn-cycle, turn-mirror}
use Rattle.laws.specs.Edges.{edge-comm, hit, hits, hit-no, hit-le, arrow-eq}
use Rattle.laws.specs.Cut.{outer, way, seam, allowed}
use Rattle.laws.specs.Midpoints.{Number, Numbered, edges-differ}

-- ---- edges and their ends

abbrev is_end : Edge → ℕ → Bool
is_end F z = eqb F.lo z || eqb F.hi z

abbrev other_end : Edge → ℕ → ℕ
other_end F z = F.lo + F.hi - z

end-left : (a b : ℕ) → is_end (edge a b) a ≡ true
end-left a b = go (leb a b) refl
  where
    go : (t : Bool) → leb a b ≡ t → is_end (edge a b) a ≡ true
    go true e = let l = leb-true a b e in or_left (eqb (max a b) a) (eq-eqb (min a b) a (omega arith))
    go false e = let l = leb-false a b e in or_right (eqb (min a b) a) (eq-eqb (max a b) a (omega arith))

end-right : (a b : ℕ) → is_end (edge a b) b ≡ true
end-right a b = subst (λ F. is_end F b ≡ true) (edge-comm b a) (end-left b a)

end-no : (a b z : ℕ) → a ≢ z → b ≢ z → is_end (edge a b) z ≡ false
end-no a b z p q = rw (ne_eqb (min a b) z (omega arith), ne_eqb (max a b) z (omega arith))

other-left : (a b : ℕ) → other_end (edge a b) a ≡ b
other-left a b = omega arith

other-right : (a b : ℕ) → other_end (edge a b) b ≡ a
other-right a b = omega arith

-- the end of G that is off F
abbrev off_end : Edge → Edge → ℕ
off_end F G = cases (is_end F G.lo) G.hi G.lo

off_next : (a b c : ℕ) → c ≢ a → b ≢ c → off_end (edge a b) (edge b c) ≡ c
off_next a b c ca bc = go (leb b c) refl
  where
    go : (t : Bool) → leb b c ≡ t → off_end (edge a b) (edge b c) ≡ c
    go true e =
        let l = leb-true b c e in
        let lo : min b c ≡ b = omega arith in
        let hi : max b c ≡ c = omega arith in
        rw (lo, hi, end-right a b)
    go false e =
        let l = leb-false b c e in
        let lo : min b c ≡ c = omega arith in
        rw (lo, end-no a b c (λ w. ca (sym w)) bc)

off-before : (a b c : ℕ) → c ≢ a → b ≢ c → off_end (edge a b) (edge c a) ≡ c
off-before a b c ca bc =
    ap (λ F. off_end F (edge c a)) (edge-comm a b) ∙ ap (off_end (edge b a)) (edge-comm c a) ∙ off_next b a c (λ w. bc (sym w)) (λ w. ca (sym w))

-- ---- at most one of two arrows

one_more : (e : Arrow) (a b rest h : ℕ) → (e.from ≡ a → e.to ≡ b → rest ≡ 0) → hit e a b ≤ h → rest ≤ h → hit e a b + rest ≤ h
unfolding hit
one_more e a b rest h f p q = go (same_arrow e (arrow a b)) refl p
  where
    go : (t : Bool) → same_arrow e (arrow a b) ≡ t → suc_if t 0 ≤ h → suc_if t 0 + rest ≤ h
    go true w p = let z = f (arrow-eq e a b w).0 (arrow-eq e a b w).1 in omega arith
    go false w p = omega arith

-- nodes from n on are new; E tells the edge that a new node halves; P the places of the old nodes
module _ (P : ℕ → Place) (E : ℕ → Edge) (n n' : ℕ) where
  -- ---- the source

  -- of the two arrows along F, the one that has z on its left
  facing : Edge → ℕ → Arrow
  facing F z = cases (lt_z (pos 0) (turn (P F.lo) (P F.hi) (P z))) (arrow F.lo F.hi) (arrow F.hi F.lo)

  facing-left : (a b c : ℕ) → pos 0 <ℤ turn (P a) (P b) (P c) → facing (edge a b) c ≡ arrow a b
  unfolding facing
  facing-left a b c h = go (leb a b) refl
    where
      other-side : (y z : ℤ) → y ≡ neg_ℤ z → pos 0 <ℤ z → y ≤ℤ pos 0
      other-side y z e h = omega (arith, onℤ, negℤ-ud z)

      go : (t : Bool) → leb a b ≡ t → facing (edge a b) c ≡ arrow a b
      go true e =
          let l = leb-true a b e in
          let lo : min a b ≡ a = omega arith in
          let hi : max a b ≡ b = omega arith in
          rw (lo, hi, lt-lt_z (pos 0) (turn (P a) (P b) (P c)) h)
      go false e =
          let l = leb-false a b e in
          let lo : min a b ≡ b = omega arith in
          let hi : max a b ≡ a = omega arith in
          let mirror = turn-cycle (P b) (P a) (P c) ∙ turn-mirror (P a) (P b) (P c) in
          rw (lo, hi, le-lt_z (pos 0) (turn (P b) (P a) (P c)) (other-side (turn (P b) (P a) (P c)) (turn (P a) (P b) (P c)) mirror h))

  abbrev to_new : ℕ → Edge → Arrow
  to_new z F = cases (is_end F z) (arrow z (other_end F z)) (facing F z)

  abbrev from_new : Edge → ℕ → Arrow
  from_new F z = cases (is_end F z) (arrow (other_end F z) z) (facing F z)

  pub source : Arrow → Arrow
  source e =
      cases (ltb e.from n)
      (cases (ltb e.to n) e (to_new e.from (E e.to)))
      (cases (ltb e.to n) (from_new (E e.from) e.to) (facing (E e.from) (off_end (E e.from) (E e.to))))

  -- ---- a row seen from one of its arrows: a→b, then c; k, l, j are the midpoints of a–b, b–c, c–a

  record Side (a b c : ℕ) (k l j : Option ℕ) : Type 0 where
    a-old : a < n
    b-old : b < n
    c-old : c < n
    a≢b : a ≢ b
    b≢c : b ≢ c
    c≢a : c ≢ a
    turns : pos 0 <ℤ turn (P a) (P b) (P c)
    on-ab : Number E n n' a b k
    on-bc : Number E n n' b c l
    on-ca : Number E n n' c a j

  around : {a b c : ℕ} {k l j : Option ℕ} → Side a b c k l j → Side b c a l j k
  around {a} {b} {c} s = record {
    a-old = s.b-old;
    b-old = s.c-old;
    c-old = s.a-old;
    a≢b = s.b≢c;
    b≢c = s.c≢a;
    c≢a = s.a≢b;
    turns = subst (λ z. pos 0 <ℤ z) (turn-cycle (P a) (P b) (P c)) s.turns;
    on-ab = s.on-bc;
    on-bc = s.on-ca;
    on-ca = s.on-ab;
  }

  -- ---- the table of sources

  source-whole : (a b : ℕ) → a < n → b < n → source (arrow a b) ≡ arrow a b
  unfolding source
  source-whole a b an bn = rw (lt-ltb a n an, lt-ltb b n bn)

  source_first : (a b k : ℕ) → a < n → n ≤ k → E k ≡ edge a b → source (arrow a k) ≡ arrow a b
  unfolding source
  source_first a b k an nk e = rw (lt-ltb a n an, le-ltb k n nk, e, end-left a b, other-left a b)

  source-second : (a b k : ℕ) → b < n → n ≤ k → E k ≡ edge a b → source (arrow k b) ≡ arrow a b
  unfolding source
  source-second a b k bn nk e = rw (le-ltb k n nk, lt-ltb b n bn, e, end-right a b, other-right a b)

  -- from the corner c to k, and back
  source_in : (a b c k : ℕ) → c < n → n ≤ k → E k ≡ edge a b → b ≢ c → c ≢ a → pos 0 <ℤ turn (P a) (P b) (P c) → source (arrow c k) ≡ arrow a b
  unfolding source
  source_in a b c k cn nk e bc ca h = rw (lt-ltb c n cn, le-ltb k n nk, e, end-no a b c (λ w. ca (sym w)) bc) (facing-left a b c h)

  source-out : (a b c k : ℕ) → c < n → n ≤ k → E k ≡ edge a b → b ≢ c → c ≢ a → pos 0 <ℤ turn (P a) (P b) (P c) → source (arrow k c) ≡ arrow a b
  unfolding source
  source-out a b c k cn nk e bc ca h = rw (le-ltb k n nk, lt-ltb c n cn, e, end-no a b c (λ w. ca (sym w)) bc) (facing-left a b c h)

  -- from k to the midpoint of the next edge of the row, and of the one before
  source-next : (a b c k l : ℕ) → n ≤ k → n ≤ l → E k ≡ edge a b → E l ≡ edge b c → b ≢ c → c ≢ a → pos 0 <ℤ turn (P a) (P b) (P c) → source (arrow k l) ≡ arrow a b
  unfolding source
  source-next a b c k l nk nl e f bc ca h = rw (le-ltb k n nk, le-ltb l n nl, e, f, off_next a b c ca bc) (facing-left a b c h)

  source-before : (a b c k j : ℕ) → n ≤ k → n ≤ j → E k ≡ edge a b → E j ≡ edge c a → b ≢ c → c ≢ a → pos 0 <ℤ turn (P a) (P b) (P c) → source (arrow k j) ≡ arrow a b
  unfolding source
  source-before a b c k j nk nj e f bc ca h = rw (le-ltb k n nk, le-ltb j n nj, e, f, off-before a b c ca bc) (facing-left a b c h)

  -- ---- a row allows e at most as often as it has e's source

  module _ (e : Arrow) where
    from-source : (a b a' b' : ℕ) → source (arrow a b) ≡ arrow a' b' → hit e a b ≤ hit (source e) a' b'
    from-source a b a' b' s = hit-le e (source e) a b a' b' (λ x y.
        (let w : source e ≡ arrow a' b' = ap source (λ i. record { from = x i; to = y i }) ∙ s in
        (ap (λ d. d.from) w, ap (λ d. d.to) w)))

    way_next : {a b c k : ℕ} {l j : Option ℕ} → Side a b c (Some k) l j → way e (Some k) l ≤ hit (source e) a b
    way_next {a} {b} {c} {k} {l = None} s = omega arith
    way_next {a} {b} {c} {k} {l = Some l} s = from-source k l a b (source-next a b c k l s.on-ab.0 s.on-bc.0 s.on-ab.2 s.on-bc.2 s.b≢c s.c≢a s.turns)

    way-before : {a b c k : ℕ} {l j : Option ℕ} → Side a b c (Some k) l j → way e (Some k) j ≤ hit (source e) a b
    way-before {a} {b} {c} {k} {j = None} s = omega arith
    way-before {a} {b} {c} {k} {j = Some j} s = from-source k j a b (source-before a b c k j s.on-ab.0 s.on-ca.0 s.on-ab.2 s.on-ca.2 s.b≢c s.c≢a s.turns)

    -- a way between midpoints is no arrow with an old end
    way-none : (a b k : ℕ) (l : Option ℕ) → Number E n n' a b l → (e.from ≡ k → n ≤ e.to → ⊥) → way e (Some k) l ≡ 0
    way-none a b k None h f = refl
    way-none a b k (Some l) h f = hit-no e k l (λ x y. f x (subst (λ z. n ≤ z) (sym y) h.0))

    ways : {a b c k : ℕ} {l j : Option ℕ} → Side a b c (Some k) l j → way e (Some k) l + way e (Some k) j ≤ hit (source e) a b
    ways {l = None} s = let h = way-before s in omega arith
    ways {l = Some l} {j = None} s = let h = way_next s in omega arith
    ways {a} {b} {c} {k} {l = Some l} {j = Some j} s =
        one_more e k l (hit e k j) (hit (source e) a b)
        (λ x y. hit-no e k j (λ x' y'. edges-differ b c a s.a≢b (sym s.on-bc.2 ∙ ap E (sym y ∙ y') ∙ s.on-ca.2)))
        (way_next s) (way-before s)

    -- along a split edge: the halves, what joins its midpoint to the corner, and what leads from it to other midpoints
    along : {a b c k : ℕ} {l j : Option ℕ} → Side a b c (Some k) l j →
        outer e a b (Some k) + seam e (Some c) (Some k) + way e (Some k) l + way e (Some k) j ≤ hit (source e) a b
    along {a} {b} {c} {k} {l} {j} s = go (ltb e.from n) refl
      where
        nk : n ≤ k
        nk = s.on-ab.0

        go : (t : Bool) → ltb e.from n ≡ t → outer e a b (Some k) + seam e (Some c) (Some k) + way e (Some k) l + way e (Some k) j ≤ hit (source e) a b
        go true w =
            let old = ltb-true e.from n w in
            let kb = hit-no e k b (λ x y. omega arith) in
            let kc = hit-no e k c (λ x y. omega arith) in
            let kl = way-none b c k l s.on-bc (λ x y. omega arith) in
            let kj = way-none c a k j s.on-ca (λ x y. omega arith) in
            let two = one_more e a k (hit e c k) (hit (source e) a b)
            (λ x y. hit-no e c k (λ x' y'. s.c≢a (sym x' ∙ x)))
            (from-source a k a b (source_first a b k s.a-old nk s.on-ab.2))
            (from-source c k a b (source_in a b c k s.c-old nk s.on-ab.2 s.b≢c s.c≢a s.turns)) in
            omega arith
        go false w =
            let new = ltb-false e.from n w in
            let ak = hit-no e a k (λ x y. omega (arith, s.a-old)) in
            let ck = hit-no e c k (λ x y. omega (arith, s.c-old)) in
            let some-old : (z : ℕ) → z < n → e.to ≡ z → way e (Some k) l + way e (Some k) j ≡ 0 =
            λ z zn y. (let kl = way-none b c k l s.on-bc (λ x y'. omega arith) in let kj = way-none c a k j s.on-ca (λ x y'. omega arith) in omega arith) in
            let three = one_more e k b (way e (Some k) l + way e (Some k) j) (hit (source e) a b)
            (λ x y. some-old b s.b-old y)
            (from-source k b a b (source-second a b k s.b-old nk s.on-ab.2))
            (ways s) in
            let four = one_more e k c (hit e k b + (way e (Some k) l + way e (Some k) j)) (hit (source e) a b)
            (λ x y. (let z = some-old c s.c-old y in let kb = hit-no e k b (λ x' y'. s.b≢c (sym y' ∙ y)) in omega arith))
            (from-source k c a b (source-out a b c k s.c-old nk s.on-ab.2 s.b≢c s.c≢a s.turns))
            three in
            omega arith

    whole : (a b : ℕ) → a < n → b < n → hit e a b ≤ hit (source e) a b
    whole a b an bn = from-source a b a b (source-whole a b an bn)

    side : {a b c : ℕ} {k l j : Option ℕ} → Side a b c k l j → outer e a b k + way e k l + way e k j ≤ hit (source e) a b
    side {a} {b} {k = None} s = let h = whole a b s.a-old s.b-old in omega arith
    side {k = Some k} s = let h = along s in omega arith

    pub allowed-source : {t : Tri} {o u v : Option ℕ} → Named n t → pos 0 <ℤ turn (P t.p) (P t.q) (P t.r) → Numbered E n n' t o u v →
        allowed e t o u v ≤ hits (source e) t
    allowed-source {t} {o = None} a h k =
        let pq = whole t.p t.q a.p-below a.q-below in
        let qr = whole t.q t.r a.q-below a.r-below in
        let rp = whole t.r t.p a.r-below a.p-below in
        omega arith
    allowed-source {t} {o = Some m} {u} {v} a h k =
        let s : Side t.p t.q t.r u (Some m) v = record {
          a-old = a.p-below;
          b-old = a.q-below;
          c-old = a.r-below;
          a≢b = a.p≢q;
          b≢c = a.q≢r;
          c≢a = a.r≢p;
          turns = h;
          on-ab = k.on-pq;
          on-bc = k.on-qr;
          on-ca = k.on-rp;
        } in
        let pq = side s in
        let qr = along (around s) in
        let rp = side (around (around s)) in
        omega arith
