-- The numbers of row i are read from the rows up to it: tables that agree there say the same. Assumes nothing.
use Rattle.std.specs.Prelude.{◌≡◌, List, ℕ, ◌<◌, eqb, Option, Some, None}
use Rattle.std.proofs.Math.Path.{refl, ap}
use Rattle.std.proofs.Common.{◌∙◌}
use Rattle.lists.specs.Lists.{cases}
use Rattle.lists.specs.Search.{lowest}
use Rattle.lists.specs.SearchLaw.{lowest-below, lowest-agree}
use Rattle.meaning.specs.declared.Tri.{Tri}
use Rattle.meaning.specs.Mesh.{arrow, holds_arrow}
use Rattle.meaning.specs.Tables.{row_at}
use Rattle.tables.specs.Arrow.{arrow_at}
use Rattle.notes.specs.Notes.{Note, note_at, own_m, own_u, own_v, own_on, on_found, across, mid_for, mids_at}
use Rattle.notes.specs.NotesLaw.{mids-path}

module _ (n : ℕ) (l l' s : List ℕ) (i : ℕ) (h : (j : ℕ) → j < i → row_at l j ≡ row_at l' j) where
  arrows-agree : (x y j : ℕ) → j < i → arrow_at l x y j ≡ arrow_at l' x y j
  unfolding arrow_at
  arrows-agree x y j g = ap (holds_arrow (arrow x y)) (h j g)

  across-agree : (x y : ℕ) → across n l s i x y ≡ across n l' s i x y
  unfolding across
  across-agree x y =
      ap (λ f. on_found f (λ j. own_on n (row_at l j) (note_at s j) y x) 0) (lowest-agree (arrow_at l y x) (arrow_at l' y x) i (arrows-agree y x))
      ∙ go (lowest (arrow_at l' y x) 0 i) refl
    where
      go : (f : Option ℕ) → lowest (arrow_at l' y x) 0 i ≡ f →
          on_found f (λ j. own_on n (row_at l j) (note_at s j) y x) 0 ≡ on_found f (λ j. own_on n (row_at l' j) (note_at s j) y x) 0
      go (Some j) g = ap (λ r. own_on n r (note_at s j) y x) (h j (lowest-below (arrow_at l' y x) i j g))
      go None g = refl

  for-agree : (x y on fst own : ℕ) → mid_for n l s i on fst own x y ≡ mid_for n l' s i on fst own x y
  unfolding mid_for
  for-agree x y on fst own = ap (λ k. cases (eqb on 0) 0 (cases (eqb fst 1) own k)) (across-agree x y)

  pub mids-agree : row_at l i ≡ row_at l' i → mids_at n l s i ≡ mids_at n l' s i
  unfolding mids_at
  mids-agree e =
      let w : Tri = row_at l' i in
      let c : Note = note_at s i in
      rw e
      (mids-path _ _ _ _ _ _
      (for-agree w.q w.r c.m c.fm (own_m n c))
      (for-agree w.p w.q c.u c.fu (own_u n c))
      (for-agree w.r w.p c.v c.fv (own_v n c)))
