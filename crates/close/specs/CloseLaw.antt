-- Where chains were drawn from the rows that hold the starting edges, the note of a row is 1 exactly where its refinement edge is in
-- the least closed set of document 01. Assumes nothing.
use Rattle.std.specs.Prelude.{◌≡◌, ◌⊎◌, Bool, true, false, ℕ, ◌+◌, ◌≤◌, ◌<◌, eqb, length, set, Some}
use Rattle.std.proofs.Math.Path.{refl}
use Rattle.std.proofs.Common.{sym, ◌∙◌, subst, inl, inr, get_or-set_same}
use Rattle.std.proofs.Math.Logic.{⊎_elim, ⊎_map}
use mathlib.Core.List.Memᴰ
use mathlib.Core.List.{List, Memᴰ}
use native.Mathlib.Omega.{arith}
use Rattle.std.proofs.Math.Decide.{ℕ_discrete}
use borrow.Author.Tests.{eq-eqb, ne_eqb}
use Rattle.std.proofs.Math.ListN.{get_or, length-set}
use Rattle.std.proofs.Math.Seq.{get_or-set_other}
use Rattle.lists.specs.Lists.{cases}
use Rattle.lists.specs.ListsLaw.{clash, All-at, All-of, All-imp}
use Rattle.lists.specs.Search.{lowest, items, iter}
use Rattle.lists.specs.IterLaw.{length-items, get_or-items}
use Rattle.lists.specs.ItemsLaw.{iter-carries}
use Rattle.lists.specs.ByNumberLaw.{items-in, items-all, iter-reach}
use Rattle.lists.specs.Tally.{bit}
use Rattle.meaning.specs.declared.Tri.{Tri}
use Rattle.meaning.specs.declared.Manner.{Manner}
use Rattle.meaning.specs.declared.Manner.TheVariants.{Newest, AllThree}
use Rattle.meaning.specs.Mesh.{Edge, tri, edge, edges, base}
use Rattle.meaning.specs.Lawful.{row_of}
use Rattle.meaning.specs.Split.{Closed, mem_edge, closure, starts_of, started}
use Rattle.meaning.specs.Tables.{row_at}
use Rattle.laws.specs.Edges.{mem_edge-in, mem_edge-at}
use Rattle.laws.specs.Closure.{closure-least, closure-closed, started-marked, started-only}
use Rattle.tables.specs.Arrow.{arrow_at}
use Rattle.close.specs.Drawn.{across_row, draws, draw_across, draw_sides, draw_from, when_marked, draw_marked, start_note, note_start, closed_notes}
use Rattle.close.specs.DrawLaw.{drawn-all-kept}
use Rattle.close.specs.ChainLaw.{Up, Raised, raised-none, raised-as, raised-more, raised-across}
use Rattle.close.specs.EdgeLaw.{OnceAt, Side, side-m, side-u, side-v, side-edge, edge-side, beside, adjacent, found-has, across-has}

-- the starting edges of the marked rows of a table, and whether an edge is to be split
abbrev pub start_edges : Manner → List ℕ → ℕ → List ℕ → List Edge
start_edges k l t marks = started (starts_of k) marks (items (row_at l) 0 t)

abbrev pub is_split : Manner → List ℕ → ℕ → List ℕ → Edge → Bool
is_split k l t marks e = mem_edge e (closure (items (row_at l) 0 t) (start_edges k l t marks))

-- ---- any starting rows and edges

-- F are the notes, raised from some rows. Their refinement edges are in the closure, and where a row has a starting edge its note is up
module _ (l : List ℕ) (t : ℕ) (once : OnceAt l t) (starts : ℕ → Type 0) (F : List ℕ) (raised : Raised l t starts F) (starting : List Edge)
    (inside : (x : ℕ) → x < t → starts x → mem_edge (base (row_at l x)) (closure (items (row_at l) 0 t) starting) ≡ true)
    (touched : (i : ℕ) (e : Edge) → i < t → Memᴰ e (edges (row_at l i)) → mem_edge e starting ≡ true → Up F i) where
  abbrev ts : List Tri
  ts = items (row_at l) 0 t

  abbrev S : List Edge
  S = closure (items (row_at l) 0 t) starting

  -- up, so in the set
  In : ℕ → Type 0
  In x = mem_edge (base (row_at l x)) S ≡ true

  in-pull : (x y : ℕ) → x < t → across_row l t x ≡ Some y → In x → In y
  unfolding In
  in-pull x y h a p =
      let r = across-has l t once y x a in
      All-at (All-at (closure-closed ts starting).pull (items-in (row_at l) t y r.0)) r.1 p

  up_in : (x : ℕ) → x < t → Up F x → mem_edge (base (row_at l x)) S ≡ true
  unfolding In
  up_in = raised.least In in-pull inside

  -- in the set, so up
  abbrev pub Held : Edge → Type 0
  Held e = (mem_edge e starting ≡ true) ⊎ ((j : ℕ) × (j < t) × Up F j × (base (row_at l j) ≡ e))

  near_up : (i : ℕ) (e : Edge) → i < t → Memᴰ e (edges (row_at l i)) → Held e → Up F i
  near_up i e h m (inl q) = touched i e h m q
  near_up i e h m (inr (j, k, u, q)) = ⊎_elim (λ d. subst (Up F) (sym d) u) (λ a. raised.closed j i k a u) (adjacent l t once i j e h k m q)

  held-closed : Closed ts starting Held
  held-closed = record {
    holds = All-of starting (λ e i. inl (mem_edge-in i));
    pull = items-all (row_at l) t (λ i h. All-of (edges (row_at l i)) (λ e m q. inr (i, h, near_up i e h m q, refl)));
  }

  -- an edge of the set is a starting edge, or the refinement edge of a row whose note is up
  in_held : (e : Edge) → mem_edge e S ≡ true → Held e
  in_held e m = mem_edge-at e (closure-least held-closed) m

  -- a row with an edge in the set is up
  edge-up : (i : ℕ) (e : Edge) → i < t → Memᴰ e (edges (row_at l i)) → mem_edge e S ≡ true → Up F i
  edge-up i e h m q = near_up i e h m (in_held e q)

  in-up : (i : ℕ) → i < t → mem_edge (base (row_at l i)) S ≡ true → Up F i
  in-up i h m = edge-up i (base (row_at l i)) h (Memᴰ.head refl) m

  pub note-in-closure : (i : ℕ) → i < t → get_or F i 0 ≡ bit (mem_edge (base (row_at l i)) S)
  note-in-closure i h = go (mem_edge (base (row_at l i)) S) refl
    where
      go : (b : Bool) → mem_edge (base (row_at l i)) S ≡ b → get_or F i 0 ≡ bit b
      go true e = let u = in-up i h e in let b = raised.bits i h in one (get_or F i 0) u b
        where
          one : (n : ℕ) → (n ≡ 0 → ⊥) → n ≤ 1 → n ≡ 1
          one n u b = omega arith
      go false e = down (ℕ_discrete (get_or F i 0) 0)
        where
          down : Dec (get_or F i 0 ≡ 0) → get_or F i 0 ≡ 0
          down (yes q) = q
          down (no o) = let c : true ≡ false = sym (up_in i h o) ∙ e in clash c

-- ---- the note of a marked row is put, the others stay

module _ (k : Manner) (marks : List ℕ) (t : ℕ) (F : List ℕ) (long : t ≤ length F) where
  abbrev note_of : ℕ → ℕ
  note_of j = cases (eqb (get_or marks j 0) 1) (start_note k) (get_or F j 0)

  record Noted (i : ℕ) (s : List ℕ) : Type 0 where
    pub below : (j : ℕ) → j < i → get_or s j 0 ≡ note_of j
    pub above : (j : ℕ) → i ≤ j → get_or s j 0 ≡ get_or F j 0
    pub same_length : length s ≡ length F

  noted_step : (i : ℕ) (s : List ℕ) → i < t → Noted i s → Noted (i + 1) (note_start k marks i s)
  unfolding when_marked
  noted_step i s h n = go (ℕ_discrete (get_or marks i 0) 1)
    where
      go : Dec (get_or marks i 0 ≡ 1) → Noted (i + 1) (cases (eqb (get_or marks i 0) 1) (set s i (start_note k)) s)
      go (yes e) = rw (eq-eqb (get_or marks i 0) 1 e) (record {
        below = λ j b. at j b (ℕ_discrete j i);
        above = λ j b. get_or-set_other s i j (start_note k) 0 (omega arith) ∙ n.above j (omega arith);
        same_length = length-set s i (start_note k) ∙ n.same_length;
      })
        where
          at : (j : ℕ) → j < i + 1 → Dec (j ≡ i) → get_or (set s i (start_note k)) j 0 ≡ note_of j
          at j b (yes q) = rw (q, eq-eqb (get_or marks i 0) 1 e) (get_or-set_same s i (start_note k) 0 (let a = n.same_length in omega arith))
          at j b (no o) = get_or-set_other s i j (start_note k) 0 o ∙ n.below j (omega arith)
      go (no o) = rw (ne_eqb (get_or marks i 0) 1 o) (record {
        below = λ j b. at j b (ℕ_discrete j i);
        above = λ j b. n.above j (omega arith);
        same_length = n.same_length;
      })
        where
          at : (j : ℕ) → j < i + 1 → Dec (j ≡ i) → get_or s j 0 ≡ note_of j
          at j b (yes q) = rw (q, ne_eqb (get_or marks i 0) 1 o) (n.above i (omega arith))
          at j b (no d) = n.below j (omega arith)

  noted-start : (i : ℕ) → i < t → get_or (iter (note_start k marks) 0 t F) i 0 ≡ note_of i
  noted-start = (iter-carries (note_start k marks) Noted t F noted_step (record { below = λ j b. absurd (omega arith); above = λ j b. refl; same_length = refl })).below

-- ---- the starting edges of marked rows

module _ (l : List ℕ) (t : ℕ) (once : OnceAt l t) where
  -- row x has a starting edge of row i
  abbrev Has : Manner → ℕ → ℕ → Type 0
  Has k i x = (e : Edge) × Memᴰ e (starts_of k (row_at l i)) × Memᴰ e (edges (row_at l x))

  -- in W1's manner: a row, and the rows across its sides
  module _ (starts : ℕ → Type 0) (i : ℕ) (s : List ℕ) (h : i < t) (r : Raised l t starts s) where
    abbrev w : Tri
    w = row_at l i

    -- the notes after the row and its sides
    abbrev both : List ℕ
    both = draw_sides l t (row_at l i) (draws l t i s)

    abbrev Begun : ℕ → Type 0
    Begun x = (lowest (arrow_at l (row_at l i).p (row_at l i).r) 0 t ≡ Some x) ⊎ ((lowest (arrow_at l (row_at l i).q (row_at l i).p) 0 t ≡ Some x) ⊎ ((x ≡ i) ⊎ starts x))

    begun-raised : Raised l t Begun both
    unfolding draw_sides
    begun-raised = raised-across l t _ w.r w.p (draw_across l t w.p w.q (draws l t i s)) (raised-across l t _ w.p w.q (draws l t i s) (raised-more l t starts i s h r))

    begun-has : (x : ℕ) → Begun x → Has AllThree i x ⊎ starts x
    begun-has x (inl d) = inl (edge w.r w.p, side-edge w side-v, (found-has l t once x w.r w.p d).1)
    begun-has x (inr (inl d)) = inl (edge w.p w.q, side-edge w side-u, (found-has l t once x w.p w.q d).1)
    begun-has x (inr (inr (inl e))) = inl (base w, side-edge w side-m, rw e (side-edge w side-m))
    begun-has x (inr (inr (inr q))) = inr q

    across-up : (x : ℕ) → x < t → {a b : ℕ} → Side w a b → lowest (arrow_at l b a) 0 t ≡ Some x → Up both x
    unfolding across_row
    across-up x g side-m d = begun-raised.closed i x h d (begun-raised.begun i h (inr (inr (inl refl))))
    across-up x g side-u d = begun-raised.begun x g (inr (inl d))
    across-up x g side-v d = begun-raised.begun x g (inl d)

    has-up : (x : ℕ) → x < t → Has AllThree i x ⊎ starts x → Up both x
    has-up x g (inl (e, a, m)) =
        let (b, c, side, q) = edge-side w e a in
        ⊎_elim (λ d. begun-raised.begun x g (inr (inr (inl d)))) (across-up x g side) (beside l t once x i b c e g h m side q)
    has-up x g (inr q) = begun-raised.begun x g (inr (inr (inr q)))

    raised-three : Raised l t (λ x. Has AllThree i x ⊎ starts x) both
    raised-three = raised-as l t Begun (λ x. Has AllThree i x ⊎ starts x) both (λ x g. begun-has x) has-up begun-raised

  -- what is drawn from a row: all rows that have a starting edge of it
  raised-from : (k : Manner) (starts : ℕ → Type 0) (i : ℕ) (s : List ℕ) → i < t → Raised l t starts s → Raised l t (λ x. Has k i x ⊎ starts x) (draw_from k l t i s)
  unfolding draw_from
  raised-from Newest starts i s h r =
      let R = raised-more l t starts i s h r in
      raised-as l t (λ x. (x ≡ i) ⊎ starts x) (λ x. Has Newest i x ⊎ starts x) (draws l t i s)
      (λ x g. ⊎_map (λ e. (base (row_at l i), Memᴰ.head refl, rw e (Memᴰ.head refl))) (λ w. w))
      (λ x g. ⊎_elim
      (λ (e, a, m). ⊎_elim (λ d. R.begun x g (inl d)) (λ d. R.closed i x h d (R.begun i h (inl refl))) (adjacent l t once x i e g h m (sym (Memᴰ.eq_of_singleton a))))
      (λ w. R.begun x g (inr w))) R
  raised-from AllThree starts i s h r = raised-three starts i s h r

  module _ (k : Manner) (marks : List ℕ) where
    -- row x has a starting edge of a marked row below i
    abbrev Touched : ℕ → ℕ → Type 0
    Touched i x = (a : ℕ) × (a < i) × (get_or marks a 0 ≡ 1) × Has k a x

    marked_step : (i : ℕ) (s : List ℕ) → i < t → Raised l t (Touched i) s → Raised l t (Touched (i + 1)) (draw_marked k l t marks i s)
    unfolding when_marked
    marked_step i s h r = go (ℕ_discrete (get_or marks i 0) 1)
      where
        earlier : (x : ℕ) → Touched i x → Touched (i + 1) x
        earlier x (a, b, m, e) = (a, omega arith, m, e)

        later : (x : ℕ) → Touched (i + 1) x → (Has k i x × (get_or marks i 0 ≡ 1)) ⊎ Touched i x
        later x (a, b, m, e) = at (ℕ_discrete a i)
          where
            at : Dec (a ≡ i) → (Has k i x × (get_or marks i 0 ≡ 1)) ⊎ Touched i x
            at (yes q) = inl (subst (λ (y : ℕ). Has k y x × (get_or marks y 0 ≡ 1)) q (e, m))
            at (no o) = inr (a, omega arith, m, e)

        go : Dec (get_or marks i 0 ≡ 1) → Raised l t (Touched (i + 1)) (cases (eqb (get_or marks i 0) 1) (draw_from k l t i s) s)
        go (yes e) =
            let R = raised-from k (Touched i) i s h r in
            rw (eq-eqb (get_or marks i 0) 1 e)
            (raised-as l t (λ x. Has k i x ⊎ Touched i x) (Touched (i + 1)) (draw_from k l t i s) (λ x u. ⊎_elim (λ w. (i, omega arith, e, w)) (earlier x))
            (λ x u w. R.begun x u (⊎_map (λ p. p.0) (λ q. q) (later x w))) R)
        go (no o) =
            rw (ne_eqb (get_or marks i 0) 1 o)
            (raised-as l t (Touched i) (Touched (i + 1)) s (λ x u. earlier x) (λ x u w. ⊎_elim (λ p. absurd (o p.1)) (r.begun x u) (later x w)) r)

    -- the first t notes are 0 at first; F are those after all marked rows
    module _ (s : List ℕ) (long : t ≤ length s) (clear : (x : ℕ) → x < t → get_or s x 0 ≡ 0) where
      abbrev F : List ℕ
      F = iter (draw_marked k l t marks) 0 t s

      raised : Raised l t (Touched t) F
      raised = iter-reach (draw_marked k l t marks) (λ i r. Raised l t (Touched i) r) t s marked_step (raised-none l t (Touched 0) s long clear (λ x w. let b = w.1 in omega arith))

      item-row : (x : ℕ) → x < t → row_of (items (row_at l) 0 t) x ≡ row_at l x
      item-row x h = get_or-items (row_at l) t x (tri 0 0 0) h

      -- the starting edges of a marked row are in the closure
      pub start-in : (a : ℕ) (e : Edge) → a < t → get_or marks a 0 ≡ 1 → Memᴰ e (starts_of k (row_at l a)) → is_split k l t marks e ≡ true
      start-in a e h m i =
          let b = started-marked (starts_of k) marks (items (row_at l) 0 t) a (rw (length-items (row_at l) t) h) m in
          All-at (closure-closed (items (row_at l) 0 t) (start_edges k l t marks)).holds (All-at b (rw (item-row a h) i))

      touched-in : (x : ℕ) → x < t → Touched t x → is_split k l t marks (base (row_at l x)) ≡ true
      touched-in x h (a, b, m, (e, i, j)) =
          All-at (All-at (closure-closed (items (row_at l) 0 t) (start_edges k l t marks)).pull (items-in (row_at l) t x h)) j (start-in a e b m i)

      -- e is a starting edge of a marked row
      abbrev pub Starts : Edge → Type 0
      Starts e = (a : ℕ) × (a < t) × (get_or marks a 0 ≡ 1) × Memᴰ e (starts_of k (row_at l a))

      start_of : (e : Edge) → mem_edge e (start_edges k l t marks) ≡ true → Starts e
      start_of e q =
          mem_edge-at {S = Starts} e
          (All-imp (λ d (a, b, m, i). let h : a < t = rw (length-items (row_at l) t) at b in (a, h, m, rw (item-row a h) at i)) (started-only (starts_of k) marks (items (row_at l) 0 t))) q

      touched-up : (i : ℕ) (e : Edge) → i < t → Memᴰ e (edges (row_at l i)) → mem_edge e (start_edges k l t marks) ≡ true → Up F i
      touched-up i e h j q = let (a, b, m, w) = start_of e q in raised.begun i h (a, b, m, (e, w, j))

      -- the note of a row is 1 exactly where its refinement edge is to be split
      pub drawn-note : (i : ℕ) → i < t → get_or F i 0 ≡ bit (is_split k l t marks (base (row_at l i)))
      drawn-note = note-in-closure l t once (Touched t) F raised (start_edges k l t marks) touched-in touched-up

      -- an edge to be split is a starting edge of a marked row, or the refinement edge of a row that is split
      pub closed-held : (e : Edge) → is_split k l t marks e ≡ true →
          Starts e ⊎ ((j : ℕ) × (j < t) × (is_split k l t marks (base (row_at l j)) ≡ true) × (base (row_at l j) ≡ e))
      closed-held e m = ⊎_map (start_of e) (λ (j, h, u, q). (j, h, up_in l t once (Touched t) F raised (start_edges k l t marks) touched-in touched-up j h u, q)) (in_held l t once (Touched t) F raised (start_edges k l t marks) touched-in touched-up e m)

      -- ---- the notes in the end

      pub closed-note : (i : ℕ) → i < t → get_or (closed_notes k l t marks s) i 0 ≡ cases (eqb (get_or marks i 0) 1) (start_note k) (get_or F i 0)
      unfolding closed_notes
      closed-note i h = noted-start k marks t F (let a = (drawn-all-kept l t t (omega arith) k marks s).0 in omega arith) i h
