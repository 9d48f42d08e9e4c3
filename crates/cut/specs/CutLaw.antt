-- The code's turns, in the form of their needs. Assumes nothing.
use Rattle.std.specs.Prelude.{◌≡◌, ℕ, zero, suc, ◌+◌, ◌-◌, ◌*◌, ◌≤◌, ◌<◌, Option, Some, None}
use Rattle.std.proofs.Math.Path.{refl, ap}
use Rattle.std.proofs.Common.{sym, ◌∙◌}
use mathlib.Core.List.{List, [], map}
use native.Mathlib.Omega.{arith}
use Rattle.std.proofs.Math.ListN.{length}
use Rattle.lists.specs.Lists.{joined}
use Rattle.lists.specs.Search.{items, iter}
use Rattle.lists.specs.ItemsLaw.{items-cons, items-none, items-split, items-agree, sum_to, sum-none, sum_more, sum-le, sum-few}
use Rattle.meaning.specs.declared.Tri.{Tri}
use Rattle.meaning.specs.declared.Mids.{Mids}
use Rattle.meaning.specs.declared.Quarters.{Quarters}
use Rattle.meaning.specs.declared.Quarters.TheVariants.{Bisected, Red}
use Rattle.meaning.specs.Split.{Cut, cut, bisected, red, cutting_of}
use Rattle.meaning.specs.Tables.{row_at}
use Rattle.tables.specs.Put.{set_row}
use Rattle.tables.specs.PutLaw.{rows-table}
use Rattle.neighbours.specs.Ready.{Ready, ready-fewer}
use Rattle.notes.specs.Notes.{mids_at}
use Rattle.notes.specs.NotesLaw.{note-bits}
use Rattle.notes.specs.AgreeLaw.{mids-agree}
use Rattle.cut.specs.declared.Children.{Children}
use Rattle.cut.specs.Cutting.{opt, cut_by, children, append, placed, put_rows, put_cut, cut_at, added_at, cut_all, splits}
use Rattle.cut.specs.PutRowsLaw.{length-put, put-below, put-above, put-rows, placed-put}

pub opt-yes : (a : ℕ) → (a ≡ 0 → ⊥) → opt a ≡ Some a
opt-yes zero h = absurd (h refl)
opt-yes (suc a) h = refl

-- ---- the five patterns, as the code tests them. W8: "One or two split edges are cut as in 01."

module _ (w : Tri) (k : Mids) where
  pub cut-none : (q : Quarters) → k.m ≡ 0 → children (cut w []) ≡ children (cut_by q w k)
  unfolding cut_by
  cut-none Bisected e = rw e
  cut-none Red e = rw e

  pub cut-m : (q : Quarters) → (k.m ≡ 0 → ⊥) → k.u ≡ 0 → k.v ≡ 0 → children (bisected w (Some k.m) None None) ≡ children (cut_by q w k)
  unfolding cut_by
  cut-m Bisected e f g = rw (opt-yes k.m e, f, g)
  cut-m Red e f g = rw (opt-yes k.m e, f, g)

  pub cut-mv : (q : Quarters) → (k.m ≡ 0 → ⊥) → k.u ≡ 0 → (k.v ≡ 0 → ⊥) → children (bisected w (Some k.m) None (Some k.v)) ≡ children (cut_by q w k)
  unfolding cut_by
  cut-mv Bisected e f g = rw (opt-yes k.m e, f, opt-yes k.v g)
  cut-mv Red e f g = rw (opt-yes k.m e, f, opt-yes k.v g)

  pub cut-mu : (q : Quarters) → (k.m ≡ 0 → ⊥) → (k.u ≡ 0 → ⊥) → k.v ≡ 0 → children (bisected w (Some k.m) (Some k.u) None) ≡ children (cut_by q w k)
  unfolding cut_by
  cut-mu Bisected e f g = rw (opt-yes k.m e, opt-yes k.u f, g)
  cut-mu Red e f g = rw (opt-yes k.m e, opt-yes k.u f, g)

  pub cut-bisected : (q : Quarters) → (k.m ≡ 0 → ⊥) → (k.u ≡ 0 → ⊥) → (k.v ≡ 0 → ⊥) → q ≡ Bisected → children (bisected w (Some k.m) (Some k.u) (Some k.v)) ≡ children (cut_by q w k)
  unfolding cut_by
  cut-bisected q e f g h = rw (opt-yes k.m e, opt-yes k.u f, opt-yes k.v g, h)

  pub cut-red : (q : Quarters) → (k.m ≡ 0 → ⊥) → (k.u ≡ 0 → ⊥) → (k.v ≡ 0 → ⊥) → q ≡ Red → children (red w (Some k.m) (Some k.u) (Some k.v)) ≡ children (cut_by q w k)
  unfolding cut_by
  cut-red q e f g h = rw (opt-yes k.m e, opt-yes k.u f, opt-yes k.v g, h)

-- however a triangle with all three edges split is cut, as many rows are added
pub as_many : (q : Quarters) (w : Tri) (a b c : Option ℕ) → length (cutting_of q w a b c).added ≡ length (bisected w a b c).added
as_many Bisected w a b c = refl
as_many Red w None b c = refl
as_many Red w (Some m) None c = refl
as_many Red w (Some m) (Some u) None = refl
as_many Red w (Some m) (Some u) (Some v) = refl

-- a cut adds three rows at most
few-for : (w : Tri) (a b c : Option ℕ) → length (bisected w a b c).added ≤ 3
few-for w None b c = omega arith
few-for w (Some m) None None = omega arith
few-for w (Some m) None (Some v) = omega arith
few-for w (Some m) (Some u) None = omega arith
few-for w (Some m) (Some u) (Some v) = omega arith

added-few : (q : Quarters) (n : ℕ) (l s : List ℕ) (i : ℕ) → added_at q n l s i ≤ 3
unfolding added_at cut_at cut_by
added-few q n l s i =
    let k = mids_at n l s i in
    rw (as_many q (row_at l i) (opt k.m) (opt k.u) (opt k.v)) (few-for (row_at l i) (opt k.m) (opt k.u) (opt k.v))

-- ---- one cut

-- one child more
pub append-turn : (rows l m : List ℕ) (at k : ℕ) (w : Tri) → w ≡ row_at rows k → m ≡ set_row l (at + k - 1) w → m ≡ append rows at k l
unfolding append
append-turn rows l m at k w e f = f ∙ ap (set_row l (at + k - 1)) e

-- l at first, l₁ after the first child, m after the others
pub place-done : (rows l l₁ m : List ℕ) (count i at : ℕ) (w : Tri) → w ≡ row_at rows 0 → l₁ ≡ set_row l i w → m ≡ iter (append rows at) 1 count l₁ →
    m ≡ placed rows count l i at
unfolding placed
place-done rows l l₁ m count i at w e f g = rw (← e, ← f) g

pub cut-is : (q : Quarters) (n : ℕ) (l s : List ℕ) (i : ℕ) (w : Tri) (k : Mids) (c : Children) → w ≡ row_at l i → k ≡ mids_at n l s i → c ≡ children (cut_by q w k) →
    c ≡ children (cut_at q n l s i)
unfolding cut_at
cut-is q n l s i w k c e f g = g ∙ rw (e, f)

module _ (q : Quarters) (n : ℕ) (l s : List ℕ) (i end : ℕ) (c : Children) (h : i + added_at q n l s i < end) (b : 3 * end ≤ length l) where
  children-count : c ≡ children (cut_at q n l s i) → c.count ≡ suc (added_at q n l s i)
  unfolding added_at
  children-count e = ap (λ (z : Children). z.count) e

  pub children-some : c ≡ children (cut_at q n l s i) → 1 ≤ c.count
  children-some e = let k = children-count e in omega arith

  pub children-few : c ≡ children (cut_at q n l s i) → c.count ≤ 4
  children-few e = let k = children-count e in let f = added-few q n l s i in omega arith

  pub children-end : c ≡ children (cut_at q n l s i) → c.count ≤ end + 1
  children-end e = let k = children-count e in omega arith

  pub children-room : c ≡ children (cut_at q n l s i) → 3 * (end + 1 - c.count + c.count - 1) ≤ length l
  children-room e = let k = children-count e in omega arith

  pub children-begin : c ≡ children (cut_at q n l s i) → end + 1 - c.count ≡ end - added_at q n l s i
  children-begin e = let k = children-count e in omega arith

  pub children-put : (m : List ℕ) (at : ℕ) → c ≡ children (cut_at q n l s i) → m ≡ placed c.rows c.count l i at → m ≡ put_cut (cut_at q n l s i) i at l
  unfolding added_at
  children-put m at e f = f ∙ rw e (placed-put (cut_at q n l s i).kept (cut_at q n l s i).added l i at (added-few q n l s i))

-- ---- all rows, the last first: l₀ at first, l when rows i to t are cut and row `end` is the first that was added

pub record Partly (q : Quarters) (n : ℕ) (l₀ s : List ℕ) (t t1 i end : ℕ) (l : List ℕ) : Type 0 where
  pub size : length l ≡ length l₀
  pub within : i ≤ t
  pub place : end ≡ t + sum_to (added_at q n l₀ s) i
  pub whole : (j : ℕ) → j < i → row_at l j ≡ row_at l₀ j
  pub kept-rows : items (row_at l) i t ≡ map (λ (c : Cut). c.kept) (items (cut_at q n l₀ s) i t)
  pub added-rows : items (row_at l) end t1 ≡ joined (λ (c : Cut). c.added) (items (cut_at q n l₀ s) i t)

module _ (q : Quarters) (n : ℕ) (l₀ s : List ℕ) (t t1 : ℕ) (total : t1 ≡ t + sum_to (added_at q n l₀ s) t) where
  pub cut-start : Partly q n l₀ s t t1 t t1 l₀
  cut-start = record {
    size = refl;
    within = omega arith;
    place = total;
    whole = λ j h. refl;
    kept-rows = items-none (row_at l₀) t t (omega arith) ∙ sym (ap (map (λ (c : Cut). c.kept)) (items-none (cut_at q n l₀ s) t t (omega arith)));
    added-rows = items-none (row_at l₀) t1 t1 (omega arith) ∙ sym (ap (joined (λ (c : Cut). c.added)) (items-none (cut_at q n l₀ s) t t (omega arith)));
  }

  pub cut-end : (i end : ℕ) (l : List ℕ) → i ≤ 0 → Partly q n l₀ s t t1 i end l → items (row_at l) 0 t1 ≡ cut_all (items (cut_at q n l₀ s) 0 t)
  unfolding cut_all
  cut-end i end l h d =
      let z : i ≡ 0 = omega arith in
      let e : end ≡ t = d.place ∙ rw z (rw (sum-none (added_at q n l₀ s)) (omega arith)) in
      let a = rw z at d.kept-rows in
      let b = rw (z, e) at d.added-rows in
      items-split (row_at l) 0 t t1 (omega arith) (omega arith) ∙ rw (a, b)

  -- row k is the last that is whole
  module _ (k end : ℕ) (l : List ℕ) (d : Partly q n l₀ s t t1 (k + 1) end l) where
    same-cut : cut_at q n l s k ≡ cut_at q n l₀ s k
    unfolding cut_at
    same-cut =
        let e : row_at l k ≡ row_at l₀ k = d.whole k (omega arith) in
        rw (e, mids-agree n l l₀ s k (λ j h. d.whole j (omega arith)) e)

    same-added : added_at q n l s k ≡ added_at q n l₀ s k
    unfolding added_at
    same-added = ap (λ (c : Cut). length c.added) same-cut

    place_found : end ≡ t + sum_to (added_at q n l₀ s) k + added_at q n l₀ s k
    place_found = let a = d.place in let b = sum_more (added_at q n l₀ s) k in omega arith

    place_in : end ≤ t1
    place_in = let a = d.place in let b = sum-le (added_at q n l₀ s) (k + 1) t d.within in omega arith

    turn-ready : (nc : ℕ) → Ready s nc l₀ t → Ready s nc l k
    turn-ready nc r = ready-fewer s l₀ l nc t k (let a = d.within in omega arith) d.size (λ j h. d.whole j (omega arith)) r

    turn_below : k + added_at q n l s k < end
    turn_below = let a = place_found in let b = d.within in let e = same-added in omega arith

    turn-room : 3 * t1 ≤ length l₀ → 3 * end ≤ length l
    turn-room h = let a = place_in in let b = d.size in omega arith

    -- l' is the table after the turn
    module _ (l' : List ℕ) (at : ℕ) (h : 3 * t1 ≤ length l₀) (e : at ≡ end - added_at q n l s k) (f : l' ≡ put_cut (cut_at q n l s k) k at l) where
      c : Cut
      c = cut_at q n l₀ s k

      l₁ : List ℕ
      l₁ = set_row l k c.kept

      put_is : l' ≡ put_rows l₁ at c.added
      unfolding put_cut l₁ c
      put_is = f ∙ ap (λ (x : Cut). put_rows (set_row l k x.kept) at x.added) same-cut

      long : length l₁ ≡ length l₀
      unfolding l₁
      long = rows-table.long l k c.kept ∙ d.size

      cut-count : length c.added ≡ added_at q n l₀ s k
      unfolding c added_at
      cut-count = refl

      at-is : at ≡ t + sum_to (added_at q n l₀ s) k
      at-is = let a = place_found in let b = same-added in omega arith

      end_is : at + length c.added ≡ end
      end_is = let a = place_found in let b = at-is in let g = cut-count in omega arith

      low : (j : ℕ) → j < k → row_at l' j ≡ row_at l₀ j
      unfolding l₁
      low j g =
          let a = at-is in
          let b = d.within in
          ap (λ (m : List ℕ). row_at m j) put_is
          ∙ put-below l₁ at c.added j (omega arith)
          ∙ rows-table.other l k j c.kept (omega arith)
          ∙ d.whole j (omega arith)

      here : row_at l' k ≡ c.kept
      unfolding l₁
      here =
          let a = at-is in
          let b = d.within in
          let g = d.size in
          let o = d.place in
          let u = place_in in
          ap (λ (m : List ℕ). row_at m k) put_is
          ∙ put-below l₁ at c.added k (omega arith)
          ∙ rows-table.same l k c.kept (omega arith)

      between : (j : ℕ) → k + 1 ≤ j → j < t → row_at l' j ≡ row_at l j
      unfolding l₁
      between j g b =
          let a = at-is in
          ap (λ (m : List ℕ). row_at m j) put_is
          ∙ put-below l₁ at c.added j (omega arith)
          ∙ rows-table.other l k j c.kept (omega arith)

      past : (j : ℕ) → end ≤ j → j < t1 → row_at l' j ≡ row_at l j
      unfolding l₁
      past j g b =
          let a = end_is in
          let o = d.within in
          let u = d.place in
          ap (λ (m : List ℕ). row_at m j) put_is
          ∙ put-above l₁ at c.added j (omega arith)
          ∙ rows-table.other l k j c.kept (omega arith)

      new : items (row_at l') at end ≡ c.added
      new =
          let a = end_is in
          let b = place_in in
          let g = long in
          ap (λ (m : List ℕ). items (row_at m) at end) put_is
          ∙ ap (λ (e : ℕ). items (row_at (put_rows l₁ at c.added)) at e) (sym end_is)
          ∙ put-rows l₁ at c.added (omega arith)

      turn-done : Partly q n l₀ s t t1 k at l'
      unfolding c
      turn-done = record {
        size = ap length put_is ∙ length-put l₁ at c.added ∙ long;
        within = let a = d.within in omega arith;
        place = at-is;
        whole = low;
        kept-rows =
            let a = d.within in
            let z : k < t = omega arith in
            items-cons (row_at l') k t z
            ∙ rw (here, items-agree (row_at l') (row_at l) (k + 1) t between, d.kept-rows)
            (sym (ap (map (λ (x : Cut). x.kept)) (items-cons (cut_at q n l₀ s) k t z)));
        added-rows =
            let a = d.within in
            let z : k < t = omega arith in
            let b = end_is in
            items-split (row_at l') at end t1 (omega arith) place_in
            ∙ rw (new, items-agree (row_at l') (row_at l) end t1 past, d.added-rows)
            (sym (ap (joined (λ (x : Cut). x.added)) (items-cons (cut_at q n l₀ s) k t z)));
      }

  -- the turn of the loop
  module _ (i end : ℕ) (l : List ℕ) (g : 0 < i) (d : Partly q n l₀ s t t1 i end l) where
    d' : Partly q n l₀ s t t1 (i - 1 + 1) end l
    d' = let e : i - 1 + 1 ≡ i = omega arith in rw e d

    pub loop-ready : (nc : ℕ) → Ready s nc l₀ t → Ready s nc l (i - 1)
    loop-ready nc r = turn-ready (i - 1) end l d' nc r

    pub loop-below : i - 1 + added_at q n l s (i - 1) < end
    loop-below = turn_below (i - 1) end l d'

    pub loop-room : 3 * t1 ≤ length l₀ → 3 * end ≤ length l
    loop-room h = turn-room (i - 1) end l d' h

    pub loop-turn : (l' : List ℕ) (at : ℕ) → 3 * t1 ≤ length l₀ → at ≡ end - added_at q n l s (i - 1) → l' ≡ put_cut (cut_at q n l s (i - 1)) (i - 1) at l →
        Partly q n l₀ s t t1 (i - 1) at l'
    loop-turn l' at h e f = turn-done (i - 1) end l d' l' at h e f

pub ruleset cutting = (cut-start, loop-ready, loop-below, loop-room, loop-turn, cut-end)

-- ---- the count

splits-few : (s : List ℕ) (i : ℕ) → splits s i ≤ 3
unfolding splits
splits-few s i = let b = note-bits s i in omega arith

-- r rows after rows below i were counted
count-few : (s : List ℕ) (t i r : ℕ) → i ≤ t → r ≡ t + sum_to (splits s) i → r ≤ t + 3 * i
count-few s t i r h e = let a = sum-few (splits s) 3 i (λ j b. splits-few s j) in omega arith

pub count_fits : (s : List ℕ) (t i r a : ℕ) → i < t → t ≤ 262_144 → r ≡ t + sum_to (splits s) i → a ≡ splits s i → r + a < 18_446_744_073_709_551_616
count_fits s t i r a h b e f = let k = count-few s t i r (omega arith) e in let g = splits-few s i in omega arith

pub count_turn : (s : List ℕ) (t i r a : ℕ) → r ≡ t + sum_to (splits s) i → a ≡ splits s i → r + a ≡ t + sum_to (splits s) (i + 1)
count_turn s t i r a e f = let k = sum_more (splits s) i in omega arith

pub count-start : (s : List ℕ) (t : ℕ) → t ≡ t + sum_to (splits s) 0
count-start s t = let k = sum-none (splits s) in omega arith
