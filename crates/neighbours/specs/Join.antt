-- A row joins the index, slot by slot; and the index made anew. Assumes nothing.
use Rattle.std.specs.Prelude.{◌≡◌, refl, List, ◌++◌, Bool, true, false, ℕ, zero, suc, ◌+◌, ◌-◌, ◌*◌, ◌/◌, ◌%◌, ◌≤◌, ◌<◌, eqb, ltb, length, get_or, set, take, replicate}
use Rattle.std.proofs.Common.{sym, ap, ◌∙◌, arith, eqb-true, eq-eqb, ne_eqb, ltb-true, ltb-false, length-append, length-take-le, take-take, get_or-append-add}
use Rattle.std.proofs.Math.Decide.{ℕ_discrete}
use borrow.Rule.Slice.PartMut.{put_mid, mid_of}
use Rattle.std.proofs.lemmas.List.{length-replicate, get_or-replicate, take-append-le}
use Rattle.meaning.specs.declared.Tri.{Tri}
use Rattle.meaning.specs.Tables.{row_at}
use Rattle.neighbours.specs.Sized.{Sized, Corners, index_at, slots_of}
use Rattle.tables.specs.PutLaw.{tail-filled}
use Rattle.neighbours.specs.Slots.{before, put_after, join_slot, top-le, many-le}
use Rattle.neighbours.specs.SlotsLaw.{join-length, join-take, listed-agree, listed_free, listed-join}
use Rattle.neighbours.specs.Ready.{Ready, Holds, named_at, holds-none, corner_of, slot-corner}

-- the first n slots name nodes below nc
abbrev pub InRange : ℕ → List ℕ → ℕ → Type 0
InRange nc rows n = (k : ℕ) → k < n → named_at rows k < nc

-- the first n slots are in the index as the table names nodes now, and no others
abbrev pub Exact : List ℕ → ℕ → List ℕ → ℕ → Type 0
Exact scratch nc rows n = Holds scratch nc (length rows) (named_at rows) n

-- slot k is not in the index
abbrev pub is_free : List ℕ → ℕ → List ℕ → ℕ → Bool
is_free scratch nc rows k = eqb (get_or scratch (index_at nc (length rows) + 2 * nc + k) 0) 0

-- ---- one slot

pub before-none : (m k : ℕ) → m ≡ 0 → k ≡ before m k
before-none m k e = rw (eq-eqb m 0 e)

pub before-some : (m k a : ℕ) → (m ≡ 0 → ⊥) → a ≡ m - 1 → a ≡ before m k
before-some m k a z e = rw (ne_eqb m 0 z) e

pub after-put : (z a k n : ℕ) (s s₁ s₂ : List ℕ) → n ≡ get_or s (z + a) 0 → s₁ ≡ set s (z + k) n → s₂ ≡ set s₁ (z + a) (k + 1) → s₂ ≡ put_after z a k s
after-put z a k n s s₁ s₂ e f g = rw (← e, ← f) g

pub slot-put : (nc o k v m a c : ℕ) (s s₁ s₂ s₃ : List ℕ) → m ≡ get_or s (o + v) 0 → a ≡ before m k → c ≡ get_or s (o + nc + v) 0 → s₁ ≡ put_after (o + 2 * nc) a k s →
    s₂ ≡ set s₁ (o + v) (k + 1) → s₃ ≡ set s₂ (o + nc + v) (c + 1) → s₃ ≡ join_slot nc o k v s
unfolding join_slot
slot-put nc o k v m a c s s₁ s₂ s₃ e f g h g₂ g₃ = rw (← e, ← f, ← g, ← h, ← g₂) g₃

module _ (s : List ℕ) (nc : ℕ) (rows : List ℕ) (k o v : ℕ) (x : Exact s nc rows k) (b : o ≡ index_at nc (length rows)) (i : v ≡ named_at rows k) (r : named_at rows k < nc) where
  -- no more slots than have joined
  pub top_small : get_or s (o + v) 0 ≤ k
  top_small = rw (b, x.listed.tops v (omega arith)) (top-le (named_at rows) v k)

  pub count_small : get_or s (o + nc + v) 0 ≤ k
  count_small = rw (b, x.listed.counts v (omega arith)) (many-le (named_at rows) v k)

  module _ (h : k < slots_of (length rows)) (s' : List ℕ) (e : s' ≡ join_slot nc o k v s) where
    pub exact-join : Exact s' nc rows (k + 1)
    exact-join =
        let l : length s' ≡ length s = rw e (join-length nc o k v s) in
        let fits : index_at nc (length rows) + 2 * nc + slots_of (length rows) ≤ length s = (let z = x.sizes.scratch in omega arith) in
        let n : suc k ≡ k + 1 = omega arith in
        record {
          sizes = rw l x.sizes;
          in_table = omega arith;
          in-range = λ j u. in-range-too j u (ℕ_discrete j k);
          listed = rw (e, i, b) (rw n at (listed-join (named_at rows) nc (slots_of (length rows)) (index_at nc (length rows)) k s r h fits x.listed));
        }
      where
        in-range-too : (j : ℕ) → j < k + 1 → Dec (j ≡ k) → named_at rows j < nc
        in-range-too j u (yes z) = rw z r
        in-range-too j u (no z) = x.in-range j (omega arith)

pub notes-join : (s s' : List ℕ) (nc : ℕ) (rows : List ℕ) (k o v : ℕ) → o ≡ index_at nc (length rows) → s' ≡ join_slot nc o k v s → take (index_at nc (length rows)) s' ≡ take (index_at nc (length rows)) s
notes-join s s' nc rows k o v b e = rw (e, ← b) (join-take nc o k v s)

-- ---- no slot: what stands from `index_at` on is zero

module _ (s ys : List ℕ) (nc : ℕ) (rows : List ℕ) (o : ℕ) (z : Sized nc (length rows) (length s)) (b : o ≡ index_at nc (length rows)) (e : ys ≡ replicate (length (mid_of o (length s - o) s)) 0) where
  in-scratch : o ≤ length s
  in-scratch = let a = z.scratch in omega arith

  blanked : put_mid o (length s - o) s ys ≡ take o s ++ replicate (length s - o) 0
  blanked = tail-filled s ys o 0 in-scratch e

  long : length (put_mid o (length s - o) s ys) ≡ length s
  long = rw (blanked, length-append (take o s) (replicate (length s - o) 0), length-take-le o s in-scratch, length-replicate {A = ℕ} (length s - o) 0) (let a = in-scratch in omega arith)

  zero-at : (k : ℕ) → o ≤ k → k < length s → get_or (put_mid o (length s - o) s ys) k 0 ≡ 0
  zero-at k u h =
      let n : length (take o s) + (k - o) ≡ k = rw (length-take-le o s in-scratch) (omega arith) in
      ap (λ (v : List ℕ). get_or v k 0) blanked
      ∙ (rw n at (get_or-append-add (take o s) (replicate (length s - o) 0) (k - o) 0)) ∙ get_or-replicate (length s - o) (k - o) 0 0 (omega arith)

  pub exact-blank : Exact (put_mid o (length s - o) s ys) nc rows 0
  exact-blank = holds-none (put_mid o (length s - o) s ys) nc (length rows) (named_at rows) (rw long z) (λ k u h. (let l = long in zero-at k (omega arith) (omega arith)))

  pub notes-blank : take (index_at nc (length rows)) (put_mid o (length s - o) s ys) ≡ take (index_at nc (length rows)) s
  notes-blank = rw (← b, blanked) (let l = length-take-le o s in-scratch in take-append-le o (take o s) (replicate (length s - o) 0) (omega arith) ∙ take-take o o s (omega arith))

-- ---- in the form of needs

pub notes-on : (k : ℕ) (s s' s₀ : List ℕ) → take k s' ≡ take k s → take k s ≡ take k s₀ → take k s' ≡ take k s₀
notes-on k s s' s₀ e f = e ∙ f

pub free-at : (s : List ℕ) (nc : ℕ) (rows : List ℕ) (k o n : ℕ) → o ≡ index_at nc (length rows) → n ≡ get_or s (o + 2 * nc + k) 0 → eqb n 0 ≡ is_free s nc rows k
free-at s nc rows k o n e f = rw (← e, ← f)

pub in-range-at : (nc : ℕ) (rows : List ℕ) (n k : ℕ) → InRange nc rows n → k < n → named_at rows k < nc
in-range-at nc rows n k h l = h k l

pub exact-end : (s : List ℕ) (nc : ℕ) (rows : List ℕ) (k n : ℕ) → k ≤ n → n ≤ k → Exact s nc rows k → Exact s nc rows n
exact-end s nc rows k n a b x = let q : k ≡ n = omega arith in rw q at x

-- ---- all rows

-- no slot of a later row is in, where the next row's first is not
pub exact-ready : (s : List ℕ) (nc : ℕ) (rows : List ℕ) (i : ℕ) (b : Bool) → Ready s nc rows i → b ≡ is_free s nc rows (3 * i) → b ≡ true → Exact s nc rows (3 * i)
unfolding Ready
exact-ready s nc rows i b r e f =
    let o : ℕ = index_at nc (length rows) in
    let l = r.holds.listed in
    let a = listed_free r.names nc (slots_of (length rows)) o r.held (3 * i) s l (eqb-true (get_or s (o + 2 * nc + 3 * i) 0) 0 (sym e ∙ f)) in
    let g = r.enough in
    let q : r.held ≡ 3 * i = omega arith in
    record {
      sizes = r.holds.sizes;
      in_table = let c = r.holds.in_table in omega arith;
      in-range = λ k u. (let c = r.same k u in let d = r.holds.in-range k (omega arith) in omega arith);
      listed = listed-agree r.names nc (slots_of (length rows)) o (named_at rows) (3 * i) s r.same (rw q at l);
    }

pub ready-exact : (s : List ℕ) (nc : ℕ) (rows : List ℕ) (i : ℕ) → Exact s nc rows (3 * i + 3) → Ready s nc rows (i + 1)
unfolding Ready
ready-exact s nc rows i x = record { held = 3 * i + 3; names = named_at rows; holds = x; enough = omega arith; same = λ k u. refl }

corners-in : (nc : ℕ) (w : Tri) → Corners nc w → (c : ℕ) → corner_of w c < nc
unfolding corner_of
corners-in nc w h zero = h.p-in
corners-in nc w h (suc zero) = h.q-in
corners-in nc w h (suc (suc c)) = h.r-in

-- the rows that are in name nodes in range, and so does the next
pub ready-in-range : (s : List ℕ) (nc : ℕ) (rows : List ℕ) (i : ℕ) → Ready s nc rows i → Corners nc (row_at rows i) → InRange nc rows (3 * i + 3)
unfolding Ready
ready-in-range s nc rows i r c k u = go (ltb k (3 * i)) refl
  where
    go : (b : Bool) → ltb k (3 * i) ≡ b → named_at rows k < nc
    go true q = let h = ltb-true k (3 * i) q in let e = r.same k h in let a = r.enough in let d = r.holds.in-range k (omega arith) in omega arith
    go false q =
        let h = ltb-false k (3 * i) q in
        let a : k / 3 ≡ i = omega arith in
        rw (slot-corner rows k, a) (corners-in nc (row_at rows i) c (k % 3))
