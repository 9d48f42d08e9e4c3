-- What the neighbour search asks of scratch: the index of the first t rows stands from `index_at` on. Only this crate opens `Ready`;
-- others know these laws, and what `add_row` ensures. The index lists, for each node, the slots that name it: slot k is number k of the
-- triangle table, in row k / 3. Assumes nothing.
use Rattle.std.specs.Prelude.{◌≡◌, refl, List, ℕ, zero, suc, ◌+◌, ◌-◌, ◌*◌, ◌/◌, ◌%◌, ◌≤◌, ◌<◌, length, get_or, set, drop, replicate}
use Rattle.std.proofs.Common.{sym, ap, ◌∙◌, arith, length-set, drop-set-lt, get_or-drop}
use Rattle.std.proofs.lemmas.List.{get_or-replicate}
use Rattle.meaning.specs.declared.Tri.{Tri}
use Rattle.meaning.specs.Tables.{row_at}
use Rattle.neighbours.specs.Sized.{Sized, index_at, slots_of}
use Rattle.neighbours.specs.Slots.{Listed}
use Rattle.neighbours.specs.SlotsLaw.{listed_start, listed_kept}

-- the node that slot k names
abbrev pub named_at : List ℕ → ℕ → ℕ
named_at rows k = get_or rows k 0

-- the first n slots are in the index, slot k under the node `names k`; tl is the length of the triangle table
pub record Holds (scratch : List ℕ) (nc tl : ℕ) (names : ℕ → ℕ) (n : ℕ) : Type 0 where
  pub sizes : Sized nc tl (length scratch)
  pub in_table : n ≤ slots_of tl
  pub in-range : (k : ℕ) → k < n → names k < nc
  pub listed : Listed names nc (slots_of tl) (index_at nc tl) n scratch

-- `held` slots are in, each under the node that it named when it joined: as the first t rows do now. Rows from t on may have changed
-- since, or be no longer asked about
pub record Indexed (scratch : List ℕ) (nc : ℕ) (rows : List ℕ) (t : ℕ) : Type 0 where
  pub held : ℕ
  pub names : ℕ → ℕ
  pub holds : Holds scratch nc (length rows) names held
  pub enough : 3 * t ≤ held
  pub same : (k : ℕ) → k < 3 * t → names k ≡ named_at rows k

unfoldable pub Ready : List ℕ → ℕ → List ℕ → ℕ → Type 0
Ready scratch nc rows t = Indexed scratch nc rows t

-- where all is zero no slot is in
pub holds-none : (scratch : List ℕ) (nc tl : ℕ) (names : ℕ → ℕ) → Sized nc tl (length scratch) → ((k : ℕ) → index_at nc tl ≤ k → k < length scratch → get_or scratch k 0 ≡ 0) → Holds scratch nc tl names 0
holds-none scratch nc tl names z e = record {
  sizes = z;
  in_table = omega arith;
  in-range = λ k h. absurd (omega arith);
  listed = listed_start names nc (slots_of tl) (index_at nc tl) scratch (let a = z.scratch in omega arith) e;
}

-- no row is in the index of a scratch that is all zero
pub ready-start : (scratch rows : List ℕ) (nc : ℕ) → Sized nc (length rows) (length scratch) → scratch ≡ replicate (length scratch) 0 → Ready scratch nc rows 0
unfolding Ready
ready-start scratch rows nc z e = record {
  held = 0;
  names = named_at rows;
  holds = holds-none scratch nc (length rows) (named_at rows) z (λ k a h. (ap (λ (v : List ℕ). get_or v k 0) e ∙ get_or-replicate (length scratch) k 0 0 h));
  enough = omega arith;
  same = λ k h. refl;
}

-- the sizes are as they were at the start
pub ready-sized : (scratch rows : List ℕ) (nc t : ℕ) → Ready scratch nc rows t → Sized nc (length rows) (length scratch)
unfolding Ready
ready-sized scratch rows nc t r = r.holds.sizes

-- the rows are in the table
pub ready-rows : (scratch rows : List ℕ) (nc t : ℕ) → Ready scratch nc rows t → 3 * t ≤ length rows
unfolding Ready
ready-rows scratch rows nc t r = let a = r.enough in let b = r.holds.in_table in omega arith

-- what a search carries
pub searched : (scratch rows : List ℕ) (nc t : ℕ) → Ready scratch nc rows t → record { sized : Sized nc (length rows) (length scratch); in_table : 3 * t ≤ length rows; ready : ∥ Ready scratch nc rows t ∥₁ }
searched s l nc t r = record { sized = ready-sized s l nc t r; in_table = ready-rows s l nc t r; ready = ∣ r ∣₁ }

-- the notes do not matter
pub ready-kept : (scratch scratch' rows : List ℕ) (nc t : ℕ) → length scratch' ≡ length scratch → drop (index_at nc (length rows)) scratch' ≡ drop (index_at nc (length rows)) scratch →
    Ready scratch nc rows t → Ready scratch' nc rows t
unfolding Ready
ready-kept scratch scratch' rows nc t l d r = record {
  held = r.held;
  names = r.names;
  holds = record {
    sizes = rw l r.holds.sizes;
    in_table = r.holds.in_table;
    in-range = r.holds.in-range;
    listed = listed_kept r.names nc (slots_of (length rows)) (index_at nc (length rows)) r.held scratch scratch' (λ k h. same_at k (index_at nc (length rows)) h d) r.holds.listed;
  };
  enough = r.enough;
  same = r.same;
}
  where
    same_at : (k o : ℕ) → o ≤ k → drop o scratch' ≡ drop o scratch → get_or scratch' k 0 ≡ get_or scratch k 0
    same_at k o h d =
        let e : o + (k - o) ≡ k = omega arith in
        rw e at (sym (get_or-drop o scratch' (k - o) 0) ∙ ap (λ (v : List ℕ). get_or v (k - o) 0) d ∙ get_or-drop o scratch (k - o) 0)

-- corner c of a row, where c is 0, 1 or 2
unfoldable pub corner_of : Tri → ℕ → ℕ
corner_of w zero = w.p
corner_of w (suc zero) = w.q
corner_of w (suc (suc c)) = w.r

-- slot k is corner k % 3 of row k / 3
pub slot-corner : (rows : List ℕ) (k : ℕ) → named_at rows k ≡ corner_of (row_at rows (k / 3)) (k % 3)
unfolding corner_of row_at
slot-corner rows k = go (k / 3) (k % 3) (omega arith) (omega arith)
  where
    go : (i c : ℕ) → k ≡ 3 * i + c → c < 3 → named_at rows k ≡ corner_of (row_at rows i) c
    go i zero e h = ap (named_at rows) (omega arith)
    go i (suc zero) e h = ap (named_at rows) e
    go i (suc (suc zero)) e h = ap (named_at rows) e
    go i (suc (suc (suc c))) e h = absurd (omega arith)

-- fewer rows: the search reads only these, so that the others may have changed
pub ready-fewer : (scratch rows rows' : List ℕ) (nc t i : ℕ) → i ≤ t → length rows' ≡ length rows → ((j : ℕ) → j < i → row_at rows' j ≡ row_at rows j) →
    Ready scratch nc rows t → Ready scratch nc rows' i
unfolding Ready
ready-fewer scratch rows rows' nc t i h e a r = record {
  held = r.held;
  names = r.names;
  holds = rw e r.holds;
  enough = let b = r.enough in omega arith;
  same = λ k u. (r.same k (omega arith) ∙ slot-corner rows k ∙ ap (λ (w : Tri). corner_of w (k % 3)) (sym (a (k / 3) (omega arith))) ∙ sym (slot-corner rows' k));
}

-- ---- from the laws above

-- a note is put
pub ready-put : (scratch scratch' rows : List ℕ) (nc t k v : ℕ) → k < index_at nc (length rows) → scratch' ≡ set scratch k v → Ready scratch nc rows t → Ready scratch' nc rows t
ready-put scratch scratch' rows nc t k v h e r =
    ready-kept scratch scratch' rows nc t (rw e (length-set scratch k v)) (rw e (drop-set-lt (index_at nc (length rows)) scratch k v h)) r

-- all rows are in
pub ready-end : (scratch rows : List ℕ) (nc i t : ℕ) → i ≤ t → t ≤ i → Ready scratch nc rows i → Ready scratch nc rows t
ready-end scratch rows nc i t a b r = let q : i ≡ t = omega arith in rw q at r
