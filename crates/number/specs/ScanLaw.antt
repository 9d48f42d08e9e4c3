-- A scan of the rows of a table, for the edges of a set: document 01's order of numbers. What it meets first in a row, and how many edges
-- it has met before, give each edge of the row its number. Where notes say this, the numbers can be read off them. Nothing is said here of
-- how notes come to say it. Assumes nothing.
use Rattle.std.specs.Prelude.{◌≡◌, ◌⊎◌, Bool, ◌&&◌, eqb, length, Option, Some, None}
use Rattle.std.proofs.Math.Path.{refl, sym, ap}
use Rattle.std.proofs.Common.{◌∙◌, subst, inl, inr, eq-eqb, ne_eqb, length-append}
use Rattle.std.proofs.Math.Bool.{true, false, not}
use mathlib.Core.List.{List, [], ◌∷◌, ◌++◌, append_assoc, append-nil, Memᴰ}
use Prim.Native.Nat.{ℕ, zero, suc, ◌+◌, ◌≤◌, ◌<◌}
use native.Mathlib.Omega.{arith}
use Rattle.lists.specs.Lists.{nil, cons, any, only, cons_if, once, joined, up_to, cases}
use Rattle.lists.specs.ListsLaw.{clash, and_both, and_left, and_right, or_no, any_at, any-row}
use Rattle.lists.specs.MembersLaw.{only-in, joined_in}
use Rattle.lists.specs.Tally.{bit}
use Rattle.lists.specs.Search.{lowest, items}
use Rattle.lists.specs.SearchLaw.{lowest-nothing}
use Rattle.lists.specs.ItemsLaw.{joined-append, items-snoc, items-none}
use Rattle.lists.specs.ByNumberLaw.{items-in, items_of, items-around, lowest-no}
use Rattle.lists.specs.AnyLaw.{any_append}
use Rattle.lists.specs.PartsLaw.{not_so, only-append, in-only, in-joined, where-nowhere}
use Rattle.meaning.specs.declared.Tri.{Tri}
use Rattle.meaning.specs.Mesh.{Edge, edge, edges, base, same_edge}
use Rattle.meaning.specs.Lawful.{Named}
use Rattle.meaning.specs.Tables.{row_at}
use Rattle.laws.specs.Midpoints.{edges-differ}
use Rattle.laws.specs.Edges.{edge-comm, same_edge-eq, same_edge-refl}
use Rattle.tables.specs.Arrow.{arrow_at}
use Rattle.notes.specs.declared.Note.{Note}
use Rattle.notes.specs.Notes.{note, note_at, own_m, own_u, own_v, on_arrow, own_on, across, mid_for, mids_at, num, numbers_of}
use Rattle.notes.specs.Notes as Noted
use Rattle.notes.specs.Met as Met
use Rattle.notes.specs.NotesLaw.{mids-path}
use Rattle.close.specs.Drawn.{on_found}
use Rattle.close.specs.EdgeLaw.{OnceAt, Side, side-m, side-u, side-v, side-at, side-edge, edge-side, edge-ends, found_side}
use Rattle.number.specs.OnceLaw.{edge-sym, Apart, none, apart, new_to, any-once-edge, once_more, once-place}

-- ---- a scan of the rows of a table, for the edges of a set

-- as it meets them in the rows below i
abbrev pub met_in : List ℕ → (Edge → Bool) → ℕ → List Edge
met_in l mem i = only mem (joined edges (items (row_at l) 0 i))

-- each once
abbrev pub scan_of : List ℕ → (Edge → Bool) → ℕ → List Edge
scan_of l mem i = once same_edge (only mem (joined edges (items (row_at l) 0 i)))

-- e is in the set, and not met below row i
abbrev pub news_in : List ℕ → (Edge → Bool) → ℕ → Edge → Bool
news_in l mem i e = new_to mem (met_in l mem i) e

-- the edges first met in row i
abbrev pub firsts_in : List ℕ → (Edge → Bool) → ℕ → List Edge
firsts_in l mem i = only (news_in l mem i) (edges (row_at l i))

-- what the note of row i is to say
abbrev pub note_in : List ℕ → (Edge → Bool) → ℕ → Note
note_in l mem i =
    note (bit (mem (base (row_at l i)))) (bit (mem (edge (row_at l i).p (row_at l i).q))) (bit (mem (edge (row_at l i).r (row_at l i).p)))
    (bit (news_in l mem i (base (row_at l i)))) (bit (news_in l mem i (edge (row_at l i).p (row_at l i).q))) (bit (news_in l mem i (edge (row_at l i).r (row_at l i).p)))
    (length (scan_of l mem i))

-- ---- small laws

bit-is-one : (b : Bool) → eqb (bit b) 1 ≡ b
bit-is-one true = refl
bit-is-one false = refl

length_front : (b : Bool) (e : Edge) (l : List Edge) → length (cons_if b e l) ≡ bit b + length l
length_front true e l = omega arith
length_front false e l = omega arith

none_only : (f g : Edge → Bool) (l : List Edge) → any g l ≡ false → any g (only f l) ≡ false
none_only f g [] n = refl
none_only f g (x ∷ xs) n = let h = or_no (g x) (any g xs) n in go (f x) h.0 (none_only f g xs h.1)
  where
    go : (b : Bool) → g x ≡ false → any g (only f xs) ≡ false → any g (cons_if b x (only f xs)) ≡ false
    go true p q = rw (p, q)
    go false p q = q

edge_other : (a b c : ℕ) → (c ≡ a → ⊥) → same_edge (edge a b) (edge b c) ≡ false
edge_other a b c n = not_so (same_edge (edge a b) (edge b c)) (λ t. edges-differ a b c n (same_edge-eq (edge a b) (edge b c) t))

-- ---- a side of a row: the edges of the row before it and after it, and the number that a note has for it

abbrev earlier : {w : Tri} {x y : ℕ} → Side w x y → List Edge
earlier side-m = []
earlier {w} side-u = base w ∷ []
earlier {w} side-v = base w ∷ edge w.p w.q ∷ []

abbrev following : {w : Tri} {x y : ℕ} → Side w x y → List Edge
following {w} side-m = edge w.p w.q ∷ edge w.r w.p ∷ []
following {w} side-u = edge w.r w.p ∷ []
following side-v = []

row-around : {w : Tri} {x y : ℕ} (s : Side w x y) (L : List Edge) → edges w ++ L ≡ earlier s ++ (edge x y ∷ (following s ++ L))
row-around side-m L = refl
row-around side-u L = refl
row-around side-v L = refl

-- of three numbers, for q–r, p–q and r–p, the one for a side
abbrev pub side_pick : {w : Tri} {x y : ℕ} → Side w x y → ℕ → ℕ → ℕ → ℕ
side_pick side-m a b c = a
side_pick side-u a b c = b
side_pick side-v a b c = c

abbrev own_at : {w : Tri} {x y : ℕ} → Side w x y → ℕ → Note → ℕ
own_at s n c = side_pick s (own_m n c) (own_u n c) (own_v n c)

-- where the corners differ, that for its arrow
pub on-side : {n : ℕ} (w : Tri) → Named n w → {x y : ℕ} (s : Side w x y) (a b c : ℕ) → on_arrow w x y a b c ≡ side_pick s a b c
unfolding on_arrow
on-side w d side-m a b c = rw (eq-eqb w.q w.q refl, eq-eqb w.r w.r refl)
on-side w d side-u a b c = rw (ne_eqb w.q w.p (λ e. d.p≢q (sym e)), eq-eqb w.p w.p refl, eq-eqb w.q w.q refl)
on-side w d side-v a b c = rw (ne_eqb w.q w.r d.q≢r, ne_eqb w.p w.r (λ e. d.r≢p (sym e)))

-- where the rows lie in a table, no directed edge occurs twice, the corners of a row differ; a set of edges
module _ (l : List ℕ) (t n : ℕ) (only_one : OnceAt l t) (named : (i : ℕ) → i < t → Named n (row_at l i)) (mem : Edge → Bool) where
  abbrev met_below : ℕ → List Edge
  met_below i = met_in l mem i

  abbrev scanned : List Edge
  scanned = scan_of l mem t

  abbrev news : ℕ → Edge → Bool
  news i e = news_in l mem i e

  abbrev note_for : ℕ → Note
  note_for i = note_in l mem i

  abbrev firsts : ℕ → List Edge
  firsts i = firsts_in l mem i

  -- ---- met before: at most one other row holds an edge of row i, the one across, and the edge was met before exactly if that row is lower

  one_below : (i : ℕ) → i ≤ t → OnceAt l i
  one_below i h a b x y p q = only_one a b x y (omega arith) (omega arith)

  -- an edge is met below row i exactly if a row there holds it the other way round
  pub met-old : (i j x y : ℕ) → i ≤ t → lowest (arrow_at l y x) 0 i ≡ Some j → mem (edge x y) ≡ true → any (same_edge (edge x y)) (met_below i) ≡ true
  met-old i j x y h e m =
      let f = found_side l i (one_below i h) j y x e in
      let k : Memᴰ (edge x y) (edges (row_at l j)) = subst (λ (d : Edge). Memᴰ d (edges (row_at l j))) (edge-comm y x) (side-edge (row_at l j) f.1) in
      any_at (same_edge (edge x y)) (same_edge-refl (edge x y)) (only-in mem (joined_in edges (items-in (row_at l) i j f.0) k) m)

  pub met-new : (i x y : ℕ) → i < t → Side (row_at l i) x y → lowest (arrow_at l y x) 0 i ≡ None → any (same_edge (edge x y)) (met_below i) ≡ false
  met-new i x y h s e = not_so (any (same_edge (edge x y)) (met_below i)) (λ a. go (any-row (same_edge (edge x y)) (met_below i) a))
    where
      side : (d : Edge) (j : ℕ) → j < i → same_edge (edge x y) d ≡ true → (a : ℕ) × (c : ℕ) × Side (row_at l j) a c × (d ≡ edge a c) → ⊥
      side d j b q (a, c, u, g) = ends (edge-ends x y a c (same_edge-eq (edge x y) d q ∙ g))
        where
          ends : ((x ≡ a) × (y ≡ c)) ⊎ ((x ≡ c) × (y ≡ a)) → ⊥
          ends (inl (p, r)) =
              let v : i ≡ j = only_one i j x y h (omega arith) (side-at l i s) (rw (p, r) (side-at l j u)) in
              omega arith
          ends (inr (p, r)) = clash (sym (rw (p, r) (side-at l j u)) ∙ lowest-nothing (arrow_at l y x) i j e b)

      row : (d : Edge) → same_edge (edge x y) d ≡ true → (w : Tri) × Memᴰ w (items (row_at l) 0 i) × Memᴰ d (edges w) → ⊥
      row d q (w, k, o) =
          let r = items_of (row_at l) i k in
          side d r.0 r.1 q (edge-side (row_at l r.0) d (subst (λ (v : Tri). Memᴰ d (edges v)) r.2 o))

      go : (d : Edge) × Memᴰ d (met_below i) × (same_edge (edge x y) d ≡ true) → ⊥
      go (d, m, q) = row d q (in-joined edges (items (row_at l) 0 i) (in-only mem (joined edges (items (row_at l) 0 i)) m).0)

  -- ---- one row more: its edges differ, so the scan adds those that it meets for the first time, in order

  -- no two edges of a row are the same
  module _ (i : ℕ) (h : i < t) where
    u-m : same_edge (edge (row_at l i).p (row_at l i).q) (base (row_at l i)) ≡ false
    u-m = edge_other (row_at l i).p (row_at l i).q (row_at l i).r (named i h).r≢p

    v-m : same_edge (edge (row_at l i).r (row_at l i).p) (base (row_at l i)) ≡ false
    v-m = edge-sym (edge (row_at l i).r (row_at l i).p) (base (row_at l i)) ∙ edge_other (row_at l i).q (row_at l i).r (row_at l i).p (named i h).p≢q

    v-u : same_edge (edge (row_at l i).r (row_at l i).p) (edge (row_at l i).p (row_at l i).q) ≡ false
    v-u = edge_other (row_at l i).r (row_at l i).p (row_at l i).q (named i h).q≢r

    -- and so of those that come before one of them
    earlier-apart : {x y : ℕ} (s : Side (row_at l i) x y) → Apart (earlier s) × (any (same_edge (edge x y)) (earlier s) ≡ false)
    earlier-apart side-m = (none, refl)
    earlier-apart side-u = (apart nil none, rw u-m)
    earlier-apart side-v = (apart (cons u-m nil) (apart nil none), rw (v-m, v-u))

    -- row i adds the edges first met in it
    firsts-next : once same_edge (met_below (i + 1)) ≡ once same_edge (met_below i) ++ firsts i
    firsts-next =
        ap (λ (ts : List Tri). once same_edge (only mem (joined edges ts))) (items-snoc (row_at l) 0 i (omega arith))
        ∙ ap (λ (es : List Edge). once same_edge (only mem es)) (joined-append edges (items (row_at l) 0 i) (row_at l i ∷ []))
        ∙ ap (once same_edge) (only-append mem (joined edges (items (row_at l) 0 i)) (joined edges (row_at l i ∷ [])))
        ∙ once_more mem (met_below i) (apart (cons u-m (cons v-m nil)) (apart (cons v-u nil) (apart nil none)))

    pub length-next : length (once same_edge (met_below (i + 1))) ≡
        length (once same_edge (met_below i)) + bit (news i (base (row_at l i))) + bit (news i (edge (row_at l i).p (row_at l i).q)) + bit (news i (edge (row_at l i).r (row_at l i).p))
    length-next =
        ap length firsts-next ∙ length-append (once same_edge (met_below i)) (firsts i)
        ∙ omega (
          arith,
          length_front (news i (base (row_at l i))) (base (row_at l i)) (only (news i) (edge (row_at l i).p (row_at l i).q ∷ edge (row_at l i).r (row_at l i).p ∷ [])),
          length_front (news i (edge (row_at l i).p (row_at l i).q)) (edge (row_at l i).p (row_at l i).q) (only (news i) (edge (row_at l i).r (row_at l i).p ∷ [])),
          length_front (news i (edge (row_at l i).r (row_at l i).p)) (edge (row_at l i).r (row_at l i).p) [],
        )

  -- ---- the numbers, from n on: an edge has the number of its place in the scan, which counts the edges met before it

  num-out : (e : Edge) → mem e ≡ false → num n scanned e ≡ 0
  num-out e q = rw (where-nowhere (same_edge e) scanned none-there)
    where
      none-there : any (same_edge e) scanned ≡ false
      none-there = any-once-edge e (met_below t) ∙ not_so (any (same_edge e) (met_below t)) (λ a. go (any-row (same_edge e) (met_below t) a))
        where
          go : (x : Edge) × Memᴰ x (met_below t) × (same_edge e x ≡ true) → ⊥
          go (x, i, a) =
              let m = (in-only mem (joined edges (items (row_at l) 0 t)) i).1 in
              let f : true ≡ false = sym m ∙ ap mem (sym (same_edge-eq e x a)) ∙ q in
              clash f

  num-new : (P Q : List Edge) (e : Edge) → met_below t ≡ P ++ cons_if (mem e) e Q → mem e ≡ true → any (same_edge e) P ≡ false → num n scanned e ≡ n + length (once same_edge P)
  num-new P Q e q m a =
      let f : scanned ≡ once same_edge (P ++ (e ∷ Q)) = ap (once same_edge) (q ∙ ap (λ (b : Bool). P ++ cons_if b e Q) m) in
      rw (f, once-place P Q e a)

  not_yes : (b : Bool) → not b ≡ true → b ≡ false
  not_yes true e = sym e
  not_yes false e = refl

  news-in : (i : ℕ) (e : Edge) → news i e ≡ true → mem e ≡ true
  news-in i e a = and_left (mem e) (not (any (same_edge e) (met_below i))) a

  news-none : (i : ℕ) (e : Edge) → news i e ≡ true → any (same_edge e) (met_below i) ≡ false
  news-none i e a = not_yes (any (same_edge e) (met_below i)) (and_right (mem e) (not (any (same_edge e) (met_below i))) a)

  -- a row's own numbers: after all edges met below it, and those that come before in it
  own-count : (i : ℕ) {x y : ℕ} (s : Side (row_at l i) x y) → own_at s n (note_for i) ≡ n + (length (once same_edge (met_below i)) + length (only (news i) (earlier s)))
  own-count i side-m = omega arith
  own-count i side-u = omega (arith, length_front (news i (base (row_at l i))) (base (row_at l i)) [])
  own-count i side-v = omega (
    arith,
    length_front (news i (base (row_at l i))) (base (row_at l i)) (only (news i) (edge (row_at l i).p (row_at l i).q ∷ [])),
    length_front (news i (edge (row_at l i).p (row_at l i).q)) (edge (row_at l i).p (row_at l i).q) [],
  )

  own-num : (i : ℕ) → i < t → {x y : ℕ} (s : Side (row_at l i) x y) → news i (edge x y) ≡ true → own_at s n (note_for i) ≡ num n scanned (edge x y)
  own-num i h {x} {y} s a =
      let e : Edge = edge x y in
      let B : List Edge = earlier s in
      let L : List Edge = joined edges (items (row_at l) (i + 1) t) in
      let p = earlier-apart i h s in
      let around : met_below t ≡ (met_below i ++ only mem (earlier s)) ++ cons_if (mem (edge x y)) (edge x y) (only mem (following s ++ joined edges (items (row_at l) (i + 1) t))) =
      ap (λ (ts : List Tri). only mem (joined edges ts)) (items-around (row_at l) t i h)
      ∙ ap (only mem) (joined-append edges (items (row_at l) 0 i) (row_at l i ∷ items (row_at l) (i + 1) t) ∙ ap (λ (es : List Edge). joined edges (items (row_at l) 0 i) ++ es) (row-around s L))
      ∙ only-append mem (joined edges (items (row_at l) 0 i)) (B ++ (e ∷ (following s ++ L)))
      ∙ ap (λ (es : List Edge). met_below i ++ es) (only-append mem B (e ∷ (following s ++ L))) ∙ sym (append_assoc (met_below i) (only mem B) (only mem (e ∷ (following s ++ L)))) in
      let fresh : any (same_edge (edge x y)) (met_below i ++ only mem (earlier s)) ≡ false =
      any_append (same_edge e) (met_below i) (only mem B) ∙ rw (news-none i e a, none_only mem (same_edge e) B p.1) in
      let counted : length (once same_edge (met_below i ++ only mem (earlier s))) ≡ length (once same_edge (met_below i)) + length (only (news i) (earlier s)) =
      ap length (once_more mem (met_below i) p.0) ∙ length-append (once same_edge (met_below i)) (only (news i) B) in
      own-count i s ∙ sym (num-new (met_below i ++ only mem (earlier s)) _ e around (news-in i e a) fresh ∙ ap (λ (k : ℕ). n + k) counted)

  own_is : (i : ℕ) → i < t → {x y : ℕ} (s : Side (row_at l i) x y) → news i (edge x y) ≡ true → own_on n (row_at l i) (note_for i) x y ≡ num n scanned (edge x y)
  own_is i h s a = on-side (row_at l i) (named i h) s _ _ _ ∙ own-num i h s a

  -- where the notes of the rows up to i say what they are to say
  module _ (s : List ℕ) (i : ℕ) (h : i < t) (notes : (j : ℕ) → j ≤ i → note_at s j ≡ note_for j) where
    -- the edge was met in a lower row, the one across
    across-num : (x y : ℕ) → Side (row_at l i) x y → mem (edge x y) ≡ true → any (same_edge (edge x y)) (met_below i) ≡ true → across n l s i x y ≡ num n scanned (edge x y)
    unfolding across
    across-num x y side m a = go (lowest (arrow_at l y x) 0 i) refl
      where
        go : (w : Option ℕ) → lowest (arrow_at l y x) 0 i ≡ w → Noted.on_found w (λ j. own_on n (row_at l j) (note_at s j) y x) 0 ≡ num n scanned (edge x y)
        go None e = clash (sym a ∙ met-new i x y h side e)
        go (Some j) e =
            let f = found_side l i (one_below i (omega arith)) j y x e in
            let b = f.0 in
            let first : lowest (arrow_at l x y) 0 j ≡ None =
            lowest-no (arrow_at l x y) j (λ k u. not_so (arrow_at l x y k) (λ q. let z = only_one k i x y (omega arith) h q (side-at l i side) in omega arith)) in
            let c : mem (edge y x) ≡ true = ap mem (edge-comm y x) ∙ m in
            let d : news j (edge y x) ≡ true = and_both c (ap not (met-new j y x (omega arith) f.1 first)) in
            ap (λ (w : Note). own_on n (row_at l j) w y x) (notes j (omega arith)) ∙ own_is j (omega arith) f.1 d ∙ ap (num n scanned) (edge-comm y x)

    for-num : {x y : ℕ} (side : Side (row_at l i) x y) →
        mid_for n l s i (bit (mem (edge x y))) (bit (news i (edge x y))) (own_at side n (note_for i)) x y ≡ num n scanned (edge x y)
    unfolding mid_for
    for-num {x} {y} side = go (mem (edge x y)) refl (any (same_edge (edge x y)) (met_below i)) refl (own-num i h side)
      where
        go : (b : Bool) → mem (edge x y) ≡ b → (c : Bool) → any (same_edge (edge x y)) (met_below i) ≡ c → (b && not c ≡ true → own_at side n (note_for i) ≡ num n scanned (edge x y)) →
            cases (eqb (bit b) 0) 0 (cases (eqb (bit (b && not c)) 1) (own_at side n (note_for i)) (across n l s i x y)) ≡ num n scanned (edge x y)
        go true m true a g = across-num x y side m a
        go true m false a g = g refl
        go false m c a g = sym (num-out (edge x y) m)

    pub mids-num : mids_at n l s i ≡ numbers_of n scanned (row_at l i)
    unfolding mids_at
    mids-num = rw (notes i (omega arith)) (mids-path _ _ _ _ _ _ (for-num side-m) (for-num side-u) (for-num side-v))

  -- ---- the scan: the edges that the notes call first met are the scan itself

  row-met : (s : List ℕ) (i : ℕ) → note_at s i ≡ note_for i → Met.met_at l s i ≡ firsts i
  unfolding Met.met_at
  row-met s i e =
      rw (e, bit-is-one (news i (base (row_at l i))), bit-is-one (news i (edge (row_at l i).p (row_at l i).q)), bit-is-one (news i (edge (row_at l i).r (row_at l i).p)))

  -- where the notes of the rows below i say what they are to say, the edges first met in them are those of the scan
  pub scan-met : (s : List ℕ) (i : ℕ) → i ≤ t → ((j : ℕ) → j < i → note_at s j ≡ note_for j) → Met.met_to l s i ≡ once same_edge (met_below i)
  unfolding Met.met_to Met.met_at
  scan-met s zero h f = rw (items-none (row_at l) 0 0 (omega arith))
  scan-met s (suc i) h f =
      let e : suc i ≡ i + 1 = omega arith in
      let a : i < t = omega arith in
      joined-append (Met.met_at l s) (up_to i) (i ∷ [])
      ∙ ap (λ (r : List Edge). r ++ (Met.met_at l s i ++ [])) (scan-met s i (omega arith) (λ j k. f j (omega arith)))
      ∙ ap (λ (r : List Edge). once same_edge (met_below i) ++ r) (append-nil (Met.met_at l s i) ∙ row-met s i (f i (omega arith)))
      ∙ sym (firsts-next i a) ∙ ap (λ (k : ℕ). once same_edge (met_below k)) (sym e)
