-- Laws of the listing, in the form of needs; and that what it lists is the border. Assumes nothing.
use Rattle.std.specs.Prelude.{Bool, true, false, not, ◌≡◌, ℕ, ◌+◌, ◌*◌, ◌≤◌, ◌<◌, ℤ, length, Option, Some, None}
use mathlib.Core.List.{List, [], ◌∷◌, ◌++◌, append_assoc, append-nil}
use Rattle.std.proofs.Math.Path.{refl, subst}
use Rattle.std.proofs.Common.{sym, ap, ◌∙◌, arith}
use Rattle.std.proofs.Math.ListN.{set, length-set}
use Rattle.std.proofs.Math.Seq.{get_or-set_same, get_or-set_other}
use Rattle.lists.specs.Lists.{only, joined, All, nil, cons}
use Rattle.lists.specs.ListsLaw.{clash, All-at, All-joined}
use Rattle.lists.specs.MembersLaw.{only_keeps}
use Rattle.lists.specs.PartsLaw.{only-append}
use Rattle.lists.specs.Search.{items}
use Rattle.lists.specs.SearchLaw.{lowest-any, at_some}
use Rattle.lists.specs.ItemsLaw.{items-snoc, items-none, items-agree, joined-append}
use Rattle.lists.specs.ByNumberLaw.{items-in, items-all}
use Rattle.meaning.specs.declared.Tri.{Tri}
use Rattle.meaning.specs.Mesh.{Arrow, arrow, arrows, holds_arrow}
use Rattle.meaning.specs.Tables.{row_at, place_at}
use Rattle.laws.specs.Meshes.{Standing}
use Rattle.tables.specs.Arrow.{arrow_at}
use Rattle.neighbours.specs.Sized.{index_at}
use Rattle.neighbours.specs.Ready.{Ready, ready-sized, ready-put}
use Rattle.border.specs.Cancel.{reverse, border}
use Rattle.border.specs.Clear.{clear}
use Rattle.outline.specs.Seen.{arrow_in, EndsStand, Listing, all_free}
use Rattle.outline.specs.LookLaw.{free-clear}
use Rattle.outline.specs.Listed.{is_border, border_of, border_to, set_arrow, Grown, Holding, Ended, all_in, gave-up}

-- ---- one arrow

-- the index is past the notes
pub note-room : (s : List ℕ) (nc : ℕ) (rows : List ℕ) (t k : ℕ) → Ready s nc rows t → k ≤ index_at nc (length rows) → k ≤ length s
note-room s nc rows t k r h = let a = (ready-sized s rows nc t r).scratch in omega arith

-- so that there are not many
pub few-arrows : (s : List ℕ) (nc : ℕ) (rows : List ℕ) (t b : ℕ) → Ready s nc rows t → 2 * b + 2 ≤ index_at nc (length rows) → b + 1 < 1_000_000
few-arrows s nc rows t b r h =
    let z = ready-sized s rows nc t r in
    let a = z.few-nodes in
    let c = z.few-rows in
    omega arith

module _ (s : List ℕ) (b x y : ℕ) where
  below-kept : (j : ℕ) → j < b → arrow_in (set_arrow s b x y) j ≡ arrow_in s j
  unfolding arrow_in set_arrow
  below-kept j h =
      let t = set s (2 * b) x in
      let e = get_or-set_other t (2 * b + 1) (2 * j) y 0 (omega arith) ∙ get_or-set_other s (2 * b) (2 * j) x 0 (omega arith) in
      let f = get_or-set_other t (2 * b + 1) (2 * j + 1) y 0 (omega arith) ∙ get_or-set_other s (2 * b) (2 * j + 1) x 0 (omega arith) in
      λ i. arrow (e i) (f i)

  here_put : 2 * b + 2 ≤ length s → arrow_in (set_arrow s b x y) b ≡ arrow x y
  unfolding arrow_in set_arrow
  here_put h =
      let t = set s (2 * b) x in
      let e = get_or-set_other t (2 * b + 1) (2 * b) y 0 (omega arith) ∙ get_or-set_same s (2 * b) x 0 (omega arith) in
      let f = get_or-set_same t (2 * b + 1) y 0 (omega (arith, length-set s (2 * b) x)) in
      λ i. arrow (e i) (f i)

  items-put : 2 * b + 2 ≤ length s → items (arrow_in (set_arrow s b x y)) 0 (b + 1) ≡ items (arrow_in s) 0 b ++ (arrow x y ∷ [])
  items-put h =
      rw (items-snoc (arrow_in (set_arrow s b x y)) 0 b (omega arith), here_put h, items-agree (arrow_in (set_arrow s b x y)) (arrow_in s) 0 b (λ j l u. below-kept j u)) refl

module _ (s : List ℕ) (nc : ℕ) (rows : List ℕ) (t b x y : ℕ) (r : Ready s nc rows t) (k : Bool) (e : k ≡ is_border rows t (arrow x y)) where
  pub grown-in : (s' : List ℕ) → 2 * b + 2 ≤ index_at nc (length rows) → s' ≡ set_arrow s b x y → k ≡ true → Grown s s' nc rows t b (b + 1) 1 (border_of rows t (arrow x y ∷ []))
  unfolding border_of set_arrow
  grown-in s' h g i = record {
    ready = subst (λ (v : List ℕ). Ready v nc rows t) (sym g) stands;
    most = omega arith;
    are = rw (g, ← e, i) (items-put s b x y (note-room s nc rows t (2 * b + 2) r h));
  }
    where
      stands : Ready (set_arrow s b x y) nc rows t
      stands = ready-put (set s (2 * b) x) _ rows nc t (2 * b + 1) y (omega arith) refl (ready-put s _ rows nc t (2 * b) x (omega arith) refl r)

  pub grown-not : k ≡ false → Grown s s nc rows t b b 1 (border_of rows t (arrow x y ∷ []))
  unfolding border_of
  grown-not i = record { ready = r; most = omega arith; are = rw (← e, i) (sym (append-nil (items (arrow_in s) 0 b))) }

-- ---- one row

-- one after the other
grown-on : (s s' s'' : List ℕ) (nc : ℕ) (rows : List ℕ) (t b q r m n : ℕ) (es ds : List Arrow) →
    Grown s s' nc rows t b q m es → Grown s' s'' nc rows t q r n ds → Grown s s'' nc rows t b r (m + n) (es ++ ds)
grown-on s s' s'' nc rows t b q r m n es ds g h = record {
  ready = h.ready;
  most = let x = g.most in let y = h.most in omega arith;
  are = h.are ∙ ap (λ (l : List Arrow). l ++ ds) g.are ∙ append_assoc (items (arrow_in s) 0 b) es ds;
}

pub grown-row : (s s' s'' s''' : List ℕ) (nc : ℕ) (rows : List ℕ) (t i b q r v : ℕ) (w : Tri) → w ≡ row_at rows i →
    Grown s s' nc rows t b q 1 (border_of rows t (arrow w.p w.q ∷ [])) → Grown s' s'' nc rows t q r 1 (border_of rows t (arrow w.q w.r ∷ [])) →
    Grown s'' s''' nc rows t r v 1 (border_of rows t (arrow w.r w.p ∷ [])) → Grown s s''' nc rows t b v 3 (border_of rows t (arrows (row_at rows i)))
unfolding border_of
grown-row s s' s'' s''' nc rows t i b q r v w e f g h =
    let k = grown-on s s'' s''' nc rows t b r v 2 1 _ _ (grown-on s s' s'' nc rows t b q r 1 1 _ _ f g) h in
    record { ready = k.ready; most = k.most; are = k.are ∙ ap (λ (l : List Arrow). items (arrow_in s) 0 b ++ l) (parts ∙ ap (λ (u : Tri). border_of rows t (arrows u)) e) }
  where
    parts : (border_of rows t (arrow w.p w.q ∷ []) ++ border_of rows t (arrow w.q w.r ∷ [])) ++ border_of rows t (arrow w.r w.p ∷ []) ≡ border_of rows t (arrows w)
    parts =
        let f = is_border rows t in
        ap (λ (l : List Arrow). l ++ only f (arrow w.r w.p ∷ [])) (sym (only-append f (arrow w.p w.q ∷ []) (arrow w.q w.r ∷ []))) ∙
        sym (only-append f (arrow w.p w.q ∷ arrow w.q w.r ∷ []) (arrow w.r w.p ∷ []))

-- ---- all rows

pub holding-start : (s : List ℕ) (nc : ℕ) (rows : List ℕ) (t : ℕ) → Ready s nc rows t → Holding s nc rows t 0 0
unfolding border_to border_of
holding-start s nc rows t r = record {
  ready = r;
  below = omega arith;
  are = rw (items-none (arrow_in s) 0 0 (omega arith), items-none (row_at rows) 0 0 (omega arith));
}

pub holding-on : (s s' : List ℕ) (nc : ℕ) (rows : List ℕ) (t i b r : ℕ) → Holding s nc rows t i b → 2 * b + 6 ≤ index_at nc (length rows) →
    Grown s s' nc rows t b r 3 (border_of rows t (arrows (row_at rows i))) → Holding s' nc rows t (i + 1) r
unfolding border_to border_of
holding-on s s' nc rows t i b r h l g = record { ready = g.ready; below = let m = g.most in omega arith; are = g.are ∙ ap (λ (l : List Arrow). l ++ border_of rows t (arrows (row_at rows i))) h.are ∙ more }
  where
    more : border_to rows t i ++ border_of rows t (arrows (row_at rows i)) ≡ border_to rows t (i + 1)
    more =
        let f = is_border rows t in
        let ts = items (row_at rows) 0 i in
        sym (only-append f (joined arrows ts) (arrows (row_at rows i))) ∙
        ap (λ (l : List Arrow). only f (joined arrows ts ++ l)) (sym (append-nil (arrows (row_at rows i)))) ∙ ap (only f) (sym (joined-append arrows ts (row_at rows i ∷ []))) ∙
        ap (λ (l : List Tri). only f (joined arrows l)) (sym (items-snoc (row_at rows) 0 i (omega arith)))

pub holding-end : (s : List ℕ) (nc : ℕ) (rows : List ℕ) (t i b : ℕ) → Holding s nc rows t i b → i ≤ t → t ≤ i → Ended s nc rows t (Some b)
holding-end s nc rows t i b h l u = let n : i ≡ t = omega arith in all_in b (rw n at h)

pub holding-out : (s : List ℕ) (nc : ℕ) (rows : List ℕ) (t i b : ℕ) → Holding s nc rows t i b → Ended s nc rows t None
holding-out s nc rows t i b h = gave-up h.ready

-- ---- what was listed is the border

border-is : (rows : List ℕ) (t : ℕ) → border_to rows t t ≡ border (items (row_at rows) 0 t)
unfolding border_to border_of is_border arrow_at
border-is rows t =
    λ i. only (λ e. not (lowest-any (holds_arrow (reverse e)) (row_at rows) (arrow_at rows e.to e.from) t (λ j l. refl) i)) (joined arrows (items (row_at rows) 0 t))

-- ---- how a listing ended, in the form of needs

module _ (s : List ℕ) (nc : ℕ) (rows : List ℕ) (t : ℕ) where
  pub ended-ready : (r : Option ℕ) → Ended s nc rows t r → Ready s nc rows t
  ended-ready r (all_in b h) = h.ready
  ended-ready r (gave-up h) = h

  holding-of : {r : Option ℕ} (b : ℕ) → Ended s nc rows t r → r ≡ Some b → Holding s nc rows t t b
  holding-of b (all_in a h) e = let q : a ≡ b = cc in subst (Holding s nc rows t t) q h
  holding-of b (gave-up h) e = at_some b (sym e)

  module _ (nodes : List ℤ) (standing : (i : ℕ) → i < t → Standing nodes (row_at rows i)) where
    row_ends : (w : Tri) → Standing nodes w → All (EndsStand nodes) (arrows w)
    row_ends w h =
        cons (record { from-stands = h.at_p; to-stands = h.at-q })
        (cons (record { from-stands = h.at-q; to-stands = h.at-r }) (cons (record { from-stands = h.at-r; to-stands = h.at_p }) nil))

    -- the ends of border arrows are corners of rows
    border-ends : All (EndsStand nodes) (border_to rows t t)
    unfolding border_to border_of
    border-ends = only_keeps (is_border rows t) (All-joined arrows (items-all (row_at rows) t (λ i h. row_ends (row_at rows i) (standing i h))))

    pub ended-listing : (r : Option ℕ) (b : ℕ) → Ended s nc rows t r → r ≡ Some b → Listing nodes s b
    ended-listing r b h e =
        let g = holding-of b h e in
        let z = ready-sized s rows nc t g.ready in
        let l = g.below in
        let m = z.few-nodes in
        let n = z.few-rows in
        record {
          room = note-room s nc rows t (2 * b) g.ready l;
          few = omega arith;
          stand = λ j k. All-at (subst (All (EndsStand nodes)) (sym g.are) border-ends) (items-in (arrow_in s) b j k);
        }

  pub ended-clear : (nodes : List ℤ) (r : Option ℕ) (b : ℕ) (x : Bool) → Ended s nc rows t r → r ≡ Some b → x ≡ all_free (place_at nodes) s b →
      x ≡ true → clear (place_at nodes) (border (items (row_at rows) 0 t)) ≡ true
  ended-clear nodes r b x h e f i =
      let g = holding-of b h e in
      sym (ap (clear (place_at nodes)) (g.are ∙ border-is rows t)) ∙ free-clear (place_at nodes) s b (sym f ∙ i)

pub none-clear : {X : Type 0} → false ≡ true → X
none-clear e = clash (sym e)
