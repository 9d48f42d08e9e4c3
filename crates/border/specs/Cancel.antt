-- Arrows that run both ways cancel: over rows in which no arrow occurs twice, what changes its sign with the arrow has the same sum over all arrows as
-- over the border ones; and what is lost along the border is gained along it. Assumes nothing.
use Rattle.std.specs.Prelude.{Bool, true, false, not, List, ◌≡◌, refl, ℕ, ◌≤◌, eqb, ℤ, pos, neg_ℤ, ◌+ℤ◌, ◌-ℤ◌}
use Rattle.std.proofs.Common.{sym, ap, ap₂, ◌∙◌, arith}
use Rattle.whole.specs.Diff.{onℤ, sumℤ, subℤ}
use Rattle.whole.specs.Ring.{K, ◌:+◌, ◌:-◌, ring3}
use Rattle.lists.specs.Lists.{any, only, count, joined}
use Rattle.lists.specs.ListsLaw.{both_ways, All-of}
use Rattle.lists.specs.AnyLaw.{any-joined}
use Rattle.meaning.specs.declared.Tri.{Tri}
use Rattle.meaning.specs.Mesh.{Arrow, arrow, arrows, same_arrow, holds_arrow}
use Rattle.laws.specs.Edges.{arrow-eq, eq-arrow}
use Rattle.border.specs.Signs.{own-negative, difference-swapped}
use Rattle.border.specs.Sums.{when, one, when-neg, added, added-only, added-parts, added-any, added-swap, added-neg, added-joined, added-zero, added-count, added-sum}

-- the other way round
abbrev pub reverse : Arrow → Arrow
reverse e = arrow e.to e.from

-- all arrows of the rows, row by row
abbrev pub arrows_of : List Tri → List Arrow
arrows_of ts = joined arrows ts

-- no arrow is in the rows twice (5)
abbrev pub Once : List Arrow → Type 0
Once es = (e : Arrow) → count (same_arrow e) es ≤ 1

-- the arrows that do not run the other way round as well
abbrev pub alone : List Arrow → List Arrow
alone es = only (λ e. not (any (same_arrow (reverse e)) es)) es

-- the border: "a directed edge a→b whose b→a no row holds", row by row
abbrev pub border : List Tri → List Arrow
border ts = only (λ e. not (any (holds_arrow (reverse e)) ts)) (arrows_of ts)

border-alone : (ts : List Tri) → border ts ≡ alone (arrows_of ts)
border-alone ts = sym (λ i. only (λ e. not (any-joined (same_arrow (reverse e)) arrows ts i)) (arrows_of ts))

reverse-back : (d e : Arrow) → same_arrow (reverse e) d ≡ true → same_arrow (reverse d) e ≡ true
reverse-back d e t = let h = arrow-eq (reverse e) d.from d.to t in eq-arrow (reverse d) e.from e.to (sym h.1) (sym h.0)

reverse-same : (d e : Arrow) → same_arrow (reverse e) d ≡ same_arrow (reverse d) e
reverse-same d e = both_ways _ _ (reverse-back d e) (reverse-back e d)

module _ (φ : ℕ → ℕ → ℤ) (turned : (a b : ℕ) → φ b a ≡ neg_ℤ (φ a b)) where
  abbrev of : Arrow → ℤ
  of e = φ e.from e.to

  pair : (d e : Arrow) → when (same_arrow (reverse e) d) (of e) ≡ when (same_arrow (reverse d) e) (neg_ℤ (of d))
  pair d e = ap (λ b. when b (of e)) (reverse-same d e) ∙ go (same_arrow (reverse d) e) refl
    where
      go : (b : Bool) → same_arrow (reverse d) e ≡ b → when b (of e) ≡ when b (neg_ℤ (of d))
      go true t = let h = arrow-eq (reverse d) e.from e.to t in sym (ap₂ φ h.0 h.1) ∙ turned d.from d.to
      go false t = refl

  -- those that run both ways come to 0
  both-cancel : (es : List Arrow) → Once es → added of (only (λ e. any (same_arrow (reverse e)) es) es) ≡ pos 0
  both-cancel es o = own-negative _ (spread ∙ added-swap (λ e d. when (same_arrow (reverse e) d) (of e)) es es ∙ gather)
    where
      spread : added of (only (λ e. any (same_arrow (reverse e)) es) es) ≡ added (λ e. added (λ d. when (same_arrow (reverse e) d) (of e)) es) es
      spread =
          added-only of (λ e. any (same_arrow (reverse e)) es) es ∙
          sym (λ i. added (λ e. added-any (same_arrow (reverse e)) (of e) es (o (reverse e)) i) es)

      gather : added (λ d. added (λ e. when (same_arrow (reverse e) d) (of e)) es) es ≡ neg_ℤ (added of (only (λ e. any (same_arrow (reverse e)) es) es))
      gather =
          (λ i. added (λ d. added (λ e. pair d e i) es) es) ∙
          (λ i. added (λ d. added-any (same_arrow (reverse d)) (neg_ℤ (of d)) es (o (reverse d)) i) es) ∙
          (λ i. added (λ d. when-neg (any (same_arrow (reverse d)) es) (of d) i) es) ∙
          added-neg (λ d. when (any (same_arrow (reverse d)) es) (of d)) es ∙
          sym (ap neg_ℤ (added-only of (λ e. any (same_arrow (reverse e)) es) es))

  cancelled : (es : List Arrow) → Once es → added of es ≡ added of (alone es)
  cancelled es o =
      added-parts of (λ e. any (same_arrow (reverse e)) es) es ∙
      rw (both-cancel es o) (let k = added of (alone es) in omega (arith, onℤ, sumℤ (pos 0) k))

  -- the sum over all arrows of the rows is the sum over the border
  pub border-sum : (ts : List Tri) → Once (arrows_of ts) → added (λ e. φ e.from e.to) (arrows_of ts) ≡ added (λ e. φ e.from e.to) (border ts)
  border-sum ts o = cancelled (arrows_of ts) o ∙ ap (added of) (sym (border-alone ts))

-- ---- balance: what is lost from node to node along the border comes to 0

round_trip : (a b c : ℤ) → (a -ℤ b) +ℤ ((b -ℤ c) +ℤ ((c -ℤ a) +ℤ pos 0)) ≡ pos 0
round_trip a b c = ring3 (λ a b c. ((a :- b) :+ ((b :- c) :+ ((c :- a) :+ K (pos 0))), K (pos 0))) a b c tt

pub balance : (g : ℕ → ℤ) (ts : List Tri) → Once (arrows_of ts) → added (λ e. g e.from -ℤ g e.to) (border ts) ≡ pos 0
balance g ts o =
    sym (border-sum (λ a b. g a -ℤ g b) (λ a b. difference-swapped (g a) (g b)) ts o) ∙ added-joined (λ e. g e.from -ℤ g e.to) arrows ts ∙
    added-zero _ (All-of ts (λ t i. round_trip (g t.p) (g t.q) (g t.r)))

-- at each node as many border arrows leave as arrive
pub leave-arrive : (z : ℕ) (ts : List Tri) → Once (arrows_of ts) → count (λ e. eqb e.from z) (border ts) ≡ count (λ e. eqb e.to z) (border ts)
leave-arrive z ts o =
    let a = added-count (λ (e : Arrow). eqb e.from z) (border ts) in
    let b = added-count (λ (e : Arrow). eqb e.to z) (border ts) in
    let c = added-sum (λ (e : Arrow). one (eqb e.from z)) (λ e. neg_ℤ (one (eqb e.to z))) (border ts) in
    let d = added-neg (λ (e : Arrow). one (eqb e.to z)) (border ts) in
    same_count _ _ (ap₂ (λ x y. x +ℤ neg_ℤ y) (sym a) (sym b) ∙ ap (λ k. added (λ (e : Arrow). one (eqb e.from z)) (border ts) +ℤ k) (sym d) ∙ sym c ∙ balance (λ k. one (eqb k z)) ts o)
  where
    same_count : (k l : ℕ) → pos k -ℤ pos l ≡ pos 0 → k ≡ l
    same_count k l e = omega (arith, onℤ, subℤ (pos k) (pos l))
