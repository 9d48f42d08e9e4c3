-- All rows cut are the rows of the refined mesh, where the notes say its numbers; and their count. Assumes nothing.
use Rattle.std.specs.Prelude.{Bool, true, false, ◌&&◌, ◌≡◌, refl, List, [], ◌∷◌, ◌++◌, map, ℕ, zero, suc, ◌+◌, ◌-◌, ◌<◌, eqb, length, Option, Some, None, is_some}
use Rattle.std.proofs.Common.{sym, ap, ◌∙◌, append-nil, arith, length-append}
use Rattle.std.proofs.lemmas.List.{length-map}
use Rattle.lists.specs.Lists.{cases, joined, where_first}
use Rattle.lists.specs.ListsLaw.{clash}
use Rattle.lists.specs.AnyLaw.{any_where}
use Rattle.lists.specs.Tally.{bit}
use Rattle.lists.specs.Search.{items}
use Rattle.lists.specs.SearchLaw.{lowest-any}
use Rattle.lists.specs.ItemsLaw.{items-snoc, items-agree, items-none, items_map, items-length, joined-append, sum_to, sum_more, sum-none, sum-agree}
use Rattle.meaning.specs.declared.Tri.{Tri}
use Rattle.meaning.specs.declared.Mids.{Mids}
use Rattle.meaning.specs.declared.Quarters.{Quarters}
use Rattle.meaning.specs.declared.Quarters.TheVariants.{Bisected, Red}
use Rattle.meaning.specs.Mesh.{Mesh, Edge, edge, base, same_edge}
use Rattle.meaning.specs.Split.{Cut, bisected, cutting_of, plus, number_of, cut_of, mem_edge, split_at, wholly, red_made}
use Rattle.meaning.specs.Tables.{row_at}
use Rattle.notes.specs.declared.Note.{Note}
use Rattle.notes.specs.Notes.{note_at, mids_at, or_zero, numbers_of}
use Rattle.notes.specs.Met.{Says}
use Rattle.cut.specs.Cutting.{opt, cut_by, cut_at, added_at, cut_all, splits, wholly_at, red_at}
use Rattle.cut.specs.CutLaw.{opt-yes, as_many}

-- ---- any way to cut a row

module _ {A : Type 0} (f : A → Cut) where
  map-kept : (ts : List A) → map (λ (c : Cut). c.kept) (map f ts) ≡ map (λ t. (f t).kept) ts
  map-kept [] = refl
  map-kept (t ∷ ts) = ap (λ r. (f t).kept ∷ r) (map-kept ts)

  joined-added : (ts : List A) → joined (λ (c : Cut). c.added) (map f ts) ≡ joined (λ t. (f t).added) ts
  joined-added [] = refl
  joined-added (t ∷ ts) = ap (λ r. (f t).added ++ r) (joined-added ts)

-- rows that are cut as f cuts them
cut-all-as : (f : Tri → Cut) (q : Quarters) (n : ℕ) (l s : List ℕ) (t : ℕ) → ((j : ℕ) → j < t → cut_at q n l s j ≡ f (row_at l j)) →
    cut_all (items (cut_at q n l s) 0 t) ≡ map (λ w. (f w).kept) (items (row_at l) 0 t) ++ joined (λ w. (f w).added) (items (row_at l) 0 t)
unfolding cut_all
cut-all-as f q n l s t h =
    let e : items (cut_at q n l s) 0 t ≡ map f (items (row_at l) 0 t) =
    items-agree (cut_at q n l s) (λ j. f (row_at l j)) 0 t (λ j a b. h j b) ∙ sym (items_map f (row_at l) 0 t) in
    rw (e, map-kept f (items (row_at l) 0 t), joined-added f (items (row_at l) 0 t))

-- ---- document 01's numbers

-- a number above 0 stands for itself
opt-number : (n : ℕ) (o : Option ℕ) → 0 < n → opt (or_zero (plus n o)) ≡ plus n o
opt-number n None h = refl
opt-number n (Some k) h = opt-yes (n + k) (λ e. omega arith)

cut-by-numbers : (q : Quarters) (n : ℕ) (es : List Edge) (w : Tri) → 0 < n → cut_by q w (numbers_of n es w) ≡ cut_of (cutting_of q) n es w
unfolding cut_by
cut-by-numbers q n es w h =
    rw (
      opt-number n (where_first (same_edge (edge w.q w.r)) es) h,
      opt-number n (where_first (same_edge (edge w.p w.q)) es) h,
      opt-number n (where_first (same_edge (edge w.r w.p)) es) h,
    )

-- where the notes say the numbers of the definition, the rows are those of the refined mesh
pub cut-mesh : (q : Quarters) (m : Mesh) (es : List Edge) (n : ℕ) (l s : List ℕ) (t : ℕ) → length m.nodes ≡ n → m.tris ≡ items (row_at l) 0 t →
    ((j : ℕ) → j < t → 0 < n) → ((j : ℕ) → j < t → mids_at n l s j ≡ numbers_of n es (row_at l j)) →
    cut_all (items (cut_at q n l s) 0 t) ≡ (split_at (cutting_of q) m es).tris
unfolding split_at cut_at
cut-mesh q m es n l s t a b z h =
    rw (a, b)
    (cut-all-as (cut_of (cutting_of q) n es) q n l s t
    (λ j g. ap (cut_by q (row_at l j)) (h j g) ∙ cut-by-numbers q n es (row_at l j) (z j g)))

-- ---- the count of rows

-- 1 where there is a node
abbrev pub on : ℕ → ℕ
on zero = 0
on (suc k) = 1

-- a note tells which edges have a node; and one that has an edge split has its refinement edge split
pub record Tells (c : Note) (k : Mids) : Type 0 where
  pub m-told : c.m ≡ on k.m
  pub u-told : c.u ≡ on k.u
  pub v-told : c.v ≡ on k.v
  pub pulled : k.m ≡ 0 → (k.u ≡ 0) × (k.v ≡ 0)

added-for : (w : Tri) (a b c : ℕ) → (a ≡ 0 → (b ≡ 0) × (c ≡ 0)) → length (bisected w (opt a) (opt b) (opt c)).added ≡ on a + on b + on c
added-for w zero b c h = let e = h refl in rw (e.0, e.1)
added-for w (suc a) zero zero h = refl
added-for w (suc a) (suc b) zero h = refl
added-for w (suc a) zero (suc c) h = refl
added-for w (suc a) (suc b) (suc c) h = refl

pub added_is : (q : Quarters) (n : ℕ) (l s : List ℕ) (i : ℕ) → Tells (note_at s i) (mids_at n l s i) → splits s i ≡ added_at q n l s i
unfolding splits added_at cut_at cut_by
added_is q n l s i d =
    let k : Mids = mids_at n l s i in
    rw (d.m-told, d.u-told, d.v-told, as_many q (row_at l i) (opt k.m) (opt k.u) (opt k.v)) (sym (added-for (row_at l i) k.m k.u k.v d.pulled))

-- the code's count is that of the rows
rows-after-is : (q : Quarters) (n : ℕ) (l s : List ℕ) (t : ℕ) → ((j : ℕ) → j < t → Tells (note_at s j) (mids_at n l s j)) →
    t + sum_to (splits s) t ≡ t + sum_to (added_at q n l s) t
rows-after-is q n l s t h = ap (λ k. t + k) (sum-agree (splits s) (added_at q n l s) t (λ j g. added_is q n l s j (h j g)))

added_more : (q : Quarters) (n : ℕ) (l s : List ℕ) (t : ℕ) → length (joined (λ (c : Cut). c.added) (items (cut_at q n l s) 0 t)) ≡ sum_to (added_at q n l s) t →
    length (joined (λ (c : Cut). c.added) (items (cut_at q n l s) 0 (t + 1))) ≡ sum_to (added_at q n l s) (t + 1)
unfolding added_at
added_more q n l s t ih =
    let e : joined (λ (c : Cut). c.added) (items (cut_at q n l s) 0 (t + 1)) ≡ joined (λ (c : Cut). c.added) (items (cut_at q n l s) 0 t) ++ ((cut_at q n l s t).added ++ []) =
    ap (joined (λ (c : Cut). c.added)) (items-snoc (cut_at q n l s) 0 t (omega arith)) ∙ joined-append (λ (c : Cut). c.added) (items (cut_at q n l s) 0 t) (cut_at q n l s t ∷ []) in
    rw (e, length-append, ih, append-nil, sum_more (added_at q n l s) t)

added-length : (q : Quarters) (n : ℕ) (l s : List ℕ) (t : ℕ) → length (joined (λ (c : Cut). c.added) (items (cut_at q n l s) 0 t)) ≡ sum_to (added_at q n l s) t
added-length q n l s zero = ap (λ cs. length (joined (λ (c : Cut). c.added) cs)) (items-none (cut_at q n l s) 0 0 (omega arith)) ∙ sym (sum-none (added_at q n l s))
added-length q n l s (suc t) =
    let e : suc t ≡ t + 1 = omega arith in
    rw e (added_more q n l s t (added-length q n l s t))

cut-all-length : (q : Quarters) (n : ℕ) (l s : List ℕ) (t : ℕ) → length (cut_all (items (cut_at q n l s) 0 t)) ≡ t + sum_to (added_at q n l s) t
unfolding cut_all
cut-all-length q n l s t =
    rw (length-append, length-map, items-length (cut_at q n l s) 0 t, added-length q n l s t) (let e : t - 0 ≡ t = omega arith in rw e)

-- ---- document 01's count

on-number : (n : ℕ) (o : Option ℕ) → 0 < n → bit (is_some o) ≡ on (or_zero (plus n o))
on-number n None h = refl
on-number n (Some k) h = sym (on_some (n + k) (omega arith))
  where
    on_some : (j : ℕ) → 0 < j → on j ≡ 1
    on_some zero g = absurd (omega arith)
    on_some (suc j) g = refl

unsplit-zero : (n : ℕ) (es : List Edge) (e : Edge) → mem_edge e es ≡ false → or_zero (number_of n es e) ≡ 0
unsplit-zero n es e h = go (where_first (same_edge e) es) (sym (any_where (same_edge e) es) ∙ h)
  where
    go : (o : Option ℕ) → is_some o ≡ false → or_zero (plus n o) ≡ 0
    go (Some k) g = clash g
    go None g = refl

zero-unsplit : (n : ℕ) (es : List Edge) (e : Edge) → 0 < n → or_zero (number_of n es e) ≡ 0 → mem_edge e es ≡ false
zero-unsplit n es e z h = any_where (same_edge e) es ∙ go (where_first (same_edge e) es) h
  where
    go : (o : Option ℕ) → or_zero (plus n o) ≡ 0 → is_some o ≡ false
    go (Some k) g = absurd (omega arith)
    go None g = refl

-- a note that says which edges are among es tells the numbers of the definition
tells-numbers : (n : ℕ) (es : List Edge) (w : Tri) (c : Note) → 0 < n → Says (λ e. mem_edge e es) w c →
    (mem_edge (base w) es ≡ false → (mem_edge (edge w.p w.q) es ≡ false) × (mem_edge (edge w.r w.p) es ≡ false)) → Tells c (numbers_of n es w)
tells-numbers n es w c z d p = record {
  m-told = d.m-said ∙ told (base w);
  u-told = d.u-said ∙ told (edge w.p w.q);
  v-told = d.v-said ∙ told (edge w.r w.p);
  pulled = λ h. let q = p (zero-unsplit n es (base w) z h) in (unsplit-zero n es (edge w.p w.q) q.0, unsplit-zero n es (edge w.r w.p) q.1);
}
  where
    told : (e : Edge) → bit (mem_edge e es) ≡ on (or_zero (number_of n es e))
    told e = ap bit (any_where (same_edge e) es) ∙ on-number n (where_first (same_edge e) es) z

-- where the notes say the split edges and their numbers, the code's count is that of the refined mesh
module _ (q : Quarters) (m : Mesh) (es : List Edge) (n : ℕ) (l s : List ℕ) (t : ℕ) (a : length m.nodes ≡ n) (b : m.tris ≡ items (row_at l) 0 t)
    (z : (j : ℕ) → j < t → 0 < n) (numbers : (j : ℕ) → j < t → mids_at n l s j ≡ numbers_of n es (row_at l j))
    (says : (j : ℕ) → j < t → Says (λ e. mem_edge e es) (row_at l j) (note_at s j))
    (pulled : (j : ℕ) → j < t → mem_edge (base (row_at l j)) es ≡ false →
    (mem_edge (edge (row_at l j).p (row_at l j).q) es ≡ false) × (mem_edge (edge (row_at l j).r (row_at l j).p) es ≡ false)) where
  pub count-rows : t + sum_to (splits s) t ≡ t + sum_to (added_at q n l s) t
  count-rows =
      rows-after-is q n l s t (λ j h. rw (numbers j h) (tells-numbers n es (row_at l j) (note_at s j) (z j h) (says j h) (pulled j h)))

  pub count-mesh : t + sum_to (splits s) t ≡ length (split_at (cutting_of q) m es).tris
  count-mesh = count-rows ∙ sym (cut-all-length q n l s t) ∙ ap length (cut-mesh q m es n l s t a b z numbers)

-- ---- red cuts

three-bits : (a b c : Bool) → eqb (bit a + bit b + bit c) 3 ≡ a && (b && (c && true))
three-bits true true true = refl
three-bits true true false = refl
three-bits true false true = refl
three-bits true false false = refl
three-bits false true true = refl
three-bits false true false = refl
three-bits false false true = refl
three-bits false false false = refl

-- where the notes say the split edges, the code's field is that of the definition
pub red-mesh : (q : Quarters) (es : List Edge) (l s : List ℕ) (t : ℕ) → ((j : ℕ) → j < t → Says (λ e. mem_edge e es) (row_at l j) (note_at s j)) →
    red_at q s t ≡ red_made q es (items (row_at l) 0 t)
unfolding red_at wholly_at splits
red-mesh Bisected es l s t says = refl
red-mesh Red es l s t says = ap (λ b. cases b 1 0) (lowest-any (wholly es) (row_at l) (wholly_at s) t said)
  where
    said : (j : ℕ) → j < t → wholly_at s j ≡ wholly es (row_at l j)
    said j h =
        let d = says j h in
        let w = row_at l j in
        rw (d.m-said, d.u-said, d.v-said) (three-bits (mem_edge (base w) es) (mem_edge (edge w.p w.q) es) (mem_edge (edge w.r w.p) es))
