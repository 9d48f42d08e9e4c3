-- Laws of edges, arrows and rows that are told apart by tests, and of their counts over rows. Assumes nothing.
use Rattle.std.specs.Prelude.{Bool, true, false, ◌&&◌, ◌||◌, ◌≡◌, refl, ℕ, min, max, ◌+◌, ◌*◌, ◌≤◌, eqb}
use mathlib.Core.List.{List, [], ◌∷◌, Memᴰ}
use Rattle.std.proofs.Common.{sym, subst, ap, ◌∙◌, arith, eqb-true, eq-eqb, ne_eqb}
use Rattle.std.proofs.Math.Path.{subst⁻¹}
use Rattle.lists.specs.Lists.{count, suc_if, joined, All}
use Rattle.lists.specs.ListsLaw.{clash, and_both, and_left, and_right, or_left, or_right, or_no, both_ways, All-at, any_at, any-row}
use Rattle.lists.specs.Tally.{tally}
use Rattle.meaning.specs.declared.Tri.{Tri}
use Rattle.meaning.specs.Mesh.{Edge, Arrow, edge, arrow, arrows, same_edge, same_arrow, same_tri, holds_node, holds_arrow}
use Rattle.meaning.specs.Split.{mem_edge}

-- ---- edges

pub edge-comm : (a b : ℕ) → edge a b ≡ edge b a
edge-comm a b =
    let p : min a b ≡ min b a = omega arith in
    let q : max a b ≡ max b a = omega arith in
    λ i. record { lo = p i; hi = q i }

pub same_edge-eq : (d e : Edge) → same_edge d e ≡ true → d ≡ e
same_edge-eq d e t =
    let p = eqb-true d.lo e.lo (and_left (eqb d.lo e.lo) (eqb d.hi e.hi) t) in
    let q = eqb-true d.hi e.hi (and_right (eqb d.lo e.lo) (eqb d.hi e.hi) t) in
    λ i. record { lo = p i; hi = q i }

pub same_edge-refl : (e : Edge) → same_edge e e ≡ true
same_edge-refl e = and_both (eq-eqb e.lo e.lo refl) (eq-eqb e.hi e.hi refl)

pub mem_edge-in : {e : Edge} {s : List Edge} → Memᴰ e s → mem_edge e s ≡ true
mem_edge-in {e} i = any_at (same_edge e) (same_edge-refl e) i

pub mem_edge-at : {S : Edge → Type 0} {s : List Edge} (e : Edge) → All S s → mem_edge e s ≡ true → S e
mem_edge-at {S} {s} e h t =
    let r = any-row (same_edge e) s t in
    subst⁻¹ S (same_edge-eq e r.0 r.2) (All-at h r.1)

-- ---- rows

pub same_tri-eq : (t u : Tri) → same_tri t u ≡ true → t ≡ u
same_tri-eq t u e =
    let b1 = eqb t.p u.p in
    let b2 = eqb t.q u.q in
    let b3 = eqb t.r u.r in
    let e2 = and_left (b1 && b2) b3 e in
    let p = eqb-true t.p u.p (and_left b1 b2 e2) in
    let q = eqb-true t.q u.q (and_right b1 b2 e2) in
    let r = eqb-true t.r u.r (and_right (b1 && b2) b3 e) in
    λ i. record { p = p i; q = q i; r = r i }

pub same_tri-refl : (t : Tri) → same_tri t t ≡ true
same_tri-refl t = and_both (and_both (eq-eqb t.p t.p refl) (eq-eqb t.q t.q refl)) (eq-eqb t.r t.r refl)

pub same_tri-comm : (t u : Tri) → same_tri t u ≡ same_tri u t
same_tri-comm t u = both_ways (same_tri t u) (same_tri u t) (yes-back t u) (yes-back u t)
  where
    yes-back : (t u : Tri) → same_tri t u ≡ true → same_tri u t ≡ true
    yes-back t u e = subst (λ v. same_tri v t ≡ true) (same_tri-eq t u e) (same_tri-refl t)

-- ---- arrows

pub same_arrow-eq : (d e : Arrow) → same_arrow d e ≡ true → d ≡ e
same_arrow-eq d e t =
    let p = eqb-true d.from e.from (and_left (eqb d.from e.from) (eqb d.to e.to) t) in
    let q = eqb-true d.to e.to (and_right (eqb d.from e.from) (eqb d.to e.to) t) in
    λ i. record { from = p i; to = q i }

pub arrow-eq : (e : Arrow) (a b : ℕ) → same_arrow e (arrow a b) ≡ true → (e.from ≡ a) × (e.to ≡ b)
arrow-eq e a b t =
    (eqb-true e.from a (and_left (eqb e.from a) (eqb e.to b) t), eqb-true e.to b (and_right (eqb e.from a) (eqb e.to b) t))

pub eq-arrow : (e : Arrow) (a b : ℕ) → e.from ≡ a → e.to ≡ b → same_arrow e (arrow a b) ≡ true
eq-arrow e a b p q = and_both (eq-eqb e.from a p) (eq-eqb e.to b q)

-- 1 if e is a→b, else 0
unfoldable pub hit : Arrow → ℕ → ℕ → ℕ
hit e a b = suc_if (same_arrow e (arrow a b)) 0

-- how often e is an arrow of the row
abbrev pub hits : Arrow → Tri → ℕ
hits e t = hit e t.p t.q + hit e t.q t.r + hit e t.r t.p

three-bools : (a b c : Bool) (k : ℕ) → suc_if a (suc_if b (suc_if c k)) ≡ suc_if a 0 + suc_if b 0 + suc_if c 0 + k
three-bools true true true k = omega arith
three-bools true true false k = omega arith
three-bools true false true k = omega arith
three-bools true false false k = omega arith
three-bools false true true k = omega arith
three-bools false true false k = omega arith
three-bools false false true k = omega arith
three-bools false false false k = omega arith

pub count-arrows : (e : Arrow) (ts : List Tri) → count (same_arrow e) (joined arrows ts) ≡ tally (hits e) ts
unfolding hit
count-arrows e [] = refl
count-arrows e (t ∷ ts) =
    three-bools (same_arrow e (arrow t.p t.q)) (same_arrow e (arrow t.q t.r)) (same_arrow e (arrow t.r t.p)) (count (same_arrow e) (joined arrows ts)) ∙
    ap (λ k. hits e t + k) (count-arrows e ts)

pub hit-self : (a b : ℕ) → hit (arrow a b) a b ≡ 1
unfolding hit
hit-self a b = rw (eq-arrow (arrow a b) a b refl refl)

pub hit-no : (e : Arrow) (a b : ℕ) → (e.from ≡ a → e.to ≡ b → ⊥) → hit e a b ≡ 0
unfolding hit
hit-no e a b f = go (same_arrow e (arrow a b)) refl
  where
    go : (t : Bool) → same_arrow e (arrow a b) ≡ t → suc_if t 0 ≡ 0
    go true q = let r = arrow-eq e a b q in absurd (f r.0 r.1)
    go false q = refl

pub hit-le : (e d : Arrow) (a b a' b' : ℕ) → (e.from ≡ a → e.to ≡ b → (d.from ≡ a') × (d.to ≡ b')) → hit e a b ≤ hit d a' b'
unfolding hit
hit-le e d a b a' b' f = go (same_arrow e (arrow a b)) refl
  where
    go : (t : Bool) → same_arrow e (arrow a b) ≡ t → suc_if t 0 ≤ suc_if (same_arrow d (arrow a' b')) 0
    go true q = let r = arrow-eq e a b q in let s = f r.0 r.1 in rw (eq-arrow d a' b' s.0 s.1) (omega arith)
    go false q = omega arith

-- a row holds an arrow, or is not hit by it
or3 : (a b c : Bool) → a || (b || (c || false)) ≡ false → (a ≡ false) × (b ≡ false) × (c ≡ false)
or3 a b c e =
    let h = or_no a (b || (c || false)) e in
    let k = or_no b (c || false) h.1 in
    (h.0, k.0, (or_no c false k.1).0)

pub not-held : (e : Arrow) (t : Tri) → holds_arrow e t ≡ false → hits e t ≡ 0
unfolding hit
not-held e t h = let k = or3 (same_arrow e (arrow t.p t.q)) (same_arrow e (arrow t.q t.r)) (same_arrow e (arrow t.r t.p)) h in rw (k.0, k.1, k.2)

pub held-hit : (e : Arrow) (t : Tri) → holds_arrow e t ≡ true → 1 ≤ hits e t
unfolding hit
held-hit e t h = go (same_arrow e (arrow t.p t.q)) (same_arrow e (arrow t.q t.r)) (same_arrow e (arrow t.r t.p)) h
  where
    go : (a b c : Bool) → a || (b || (c || false)) ≡ true → 1 ≤ suc_if a 0 + suc_if b 0 + suc_if c 0
    go true b c e = omega arith
    go false true c e = omega arith
    go false false true e = omega arith
    go false false false e = clash (sym e)

-- ---- corners

pub holds-p : (t : Tri) → holds_node t.p t ≡ true
holds-p t = or_left (eqb t.r t.p) (or_left (eqb t.q t.p) (eq-eqb t.p t.p refl))

pub holds-q : (t : Tri) → holds_node t.q t ≡ true
holds-q t = or_left (eqb t.r t.q) (or_right (eqb t.p t.q) (eq-eqb t.q t.q refl))

pub holds-r : (t : Tri) → holds_node t.r t ≡ true
holds-r t = or_right (eqb t.p t.r || eqb t.q t.r) (eq-eqb t.r t.r refl)

-- 1 if a is z, else 0
unfoldable pub here : ℕ → ℕ → ℕ
here z a = suc_if (eqb a z) 0

pub here_self : (z : ℕ) → here z z ≡ 1
unfolding here
here_self z = rw (eq-eqb z z refl)

pub here-no : (z a : ℕ) → (a ≡ z → ⊥) → here z a ≡ 0
unfolding here
here-no z a h = ap (λ b. suc_if b 0) (ne_eqb a z h)

pub here-le : (z y a b : ℕ) → (a ≡ z → b ≡ y) → here z a ≤ here y b
unfolding here
here-le z y a b f = go (eqb a z) refl
  where
    go : (t : Bool) → eqb a z ≡ t → suc_if t 0 ≤ suc_if (eqb b y) 0
    go true e = rw (eq-eqb b y (f (eqb-true a z e))) (omega arith)
    go false e = omega arith

-- how often z is a corner of the row
abbrev pub names : ℕ → Tri → ℕ
names z t = here z t.p + here z t.q + here z t.r

bools-le : (a b c : Bool) (k l : ℕ) → k ≤ l → suc_if (a || b || c) k ≤ suc_if a 0 + suc_if b 0 + suc_if c 0 + l
bools-le true b c k l h = omega arith
bools-le false true c k l h = omega arith
bools-le false false true k l h = omega arith
bools-le false false false k l h = omega arith

le-bools : (a b c : Bool) (k l : ℕ) → l ≤ 3 * k → suc_if a 0 + suc_if b 0 + suc_if c 0 + l ≤ 3 * suc_if (a || b || c) k
le-bools true true true k l h = omega arith
le-bools true true false k l h = omega arith
le-bools true false true k l h = omega arith
le-bools true false false k l h = omega arith
le-bools false true true k l h = omega arith
le-bools false true false k l h = omega arith
le-bools false false true k l h = omega arith
le-bools false false false k l h = omega arith

pub count-names : (z : ℕ) (ts : List Tri) → count (holds_node z) ts ≤ tally (names z) ts
unfolding here
count-names z [] = omega arith
count-names z (t ∷ ts) = bools-le (eqb t.p z) (eqb t.q z) (eqb t.r z) (count (holds_node z) ts) (tally (names z) ts) (count-names z ts)

pub names-count : (z : ℕ) (ts : List Tri) → tally (names z) ts ≤ 3 * count (holds_node z) ts
unfolding here
names-count z [] = omega arith
names-count z (t ∷ ts) = le-bools (eqb t.p z) (eqb t.q z) (eqb t.r z) (count (holds_node z) ts) (tally (names z) ts) (names-count z ts)
