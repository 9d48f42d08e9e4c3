-- Where the border in the tables is clear, the mesh draws neither 11 nor 12. Assumes nothing.
use Rattle.std.specs.Prelude.{◌≡◌, refl, Bool, true, ◌&&◌, ◌||◌, List, ℕ, ◌<◌, ℤ, pos, length}
use Rattle.std.proofs.Math.Path.{ap₂}
use Rattle.std.proofs.Common.{sym, ◌∙◌}
use Rattle.std.proofs.Math.Bool.{not}
use Rattle.std.proofs.Math.Dec.{eqb}
use Rattle.std.specs.Int.Signed.{lt_z, le_z}
use Rattle.lists.specs.Lists.{any, all, All, nil, cons}
use Rattle.lists.specs.ListsLaw.{All-imp, All-joined}
use Rattle.lists.specs.MembersLaw.{only_keeps}
use Rattle.lists.specs.Search.{items}
use Rattle.meaning.specs.declared.Place.{Place}
use Rattle.meaning.specs.Mesh.{Mesh, Arrow, arrows, at, turn}
use Rattle.meaning.specs.Good.{same_z}
use Rattle.meaning.specs.Lawful.{Lawful}
use Rattle.meaning.specs.Proper.{facing}
use Rattle.meaning.specs.Tables.{place_at, row_at}
use Rattle.laws.specs.Meshes.{mesh_at, place_is, count-nodes}
use Rattle.proper.proofs.ProperLaw.{proper-exact}
use Rattle.border.specs.Sums.{one, added-eq}
use Rattle.border.specs.Under.{key, under}
use Rattle.border.specs.Cancel.{border}
use Rattle.border.specs.Clear.{steep, middle, crosses, meets, under_middle, right_free, clear}
use Rattle.border.proofs.Safe.{border-clear}
use Rattle.sweep.specs.Severity.{severity}

-- ---- places that agree at the ends of the arrows

module _ {A : Type 0} where
  any_same : (f g : A → Bool) {l : List A} → All (λ x. f x ≡ g x) l → any f l ≡ any g l
  any_same f g nil = refl
  any_same f g (cons h hs) = ap₂ (λ a b. a || b) h (any_same f g hs)

  all_same : (f g : A → Bool) {l : List A} → All (λ x. f x ≡ g x) l → all f l ≡ all g l
  all_same f g nil = refl
  all_same f g (cons h hs) = ap₂ (λ a b. a && b) h (all_same f g hs)

module _ (P Q : ℕ → Place) where
  pub record Agree (e : Arrow) : Type 0 where
    pub at_from : P e.from ≡ Q e.from
    pub at-to : P e.to ≡ Q e.to

  meets-same : (e g : Arrow) → Agree e → Agree g → meets P e g ≡ meets Q e g
  unfolding meets
  meets-same e g h k = λ i.
      not (eqb g.from e.from || eqb g.from e.to) && same_z (turn (h.at_from i) (h.at-to i) (k.at_from i)) (pos 0) && le_z (facing (h.at_from i) (h.at-to i) (k.at_from i)) (pos 0)
      || crosses (h.at_from i) (h.at-to i) (k.at_from i) (k.at-to i)

  free-same : {es : List Arrow} → All Agree es → (e : Arrow) → Agree e → right_free P es e ≡ right_free Q es e
  unfolding under_middle
  free-same {es} hs e h =
      ap₂ same_z (added-eq _ _ (All-imp (λ g k. λ i. under steep (k.at_from i) (k.at-to i) (middle (h.at_from i) (h.at-to i))) hs))
      (λ i. one (lt_z (key steep (h.at-to i)) (key steep (h.at_from i))))

  clear-same : {es : List Arrow} → All Agree es → clear P es ≡ clear Q es
  unfolding clear
  clear-same {es} hs = all_same _ _ (All-imp (λ e h. ap₂ (λ a b. not a && b) (any_same (meets P e) (meets Q e) (All-imp (λ g k. meets-same e g h k) hs)) (free-same hs e h)) hs)

-- ---- of the mesh in the tables

module _ (nodes : List ℤ) (rows : List ℕ) (n t : ℕ) (law : Lawful (mesh_at nodes rows n t)) where
  abbrev m : Mesh
  m = mesh_at nodes rows n t

  named : {k : ℕ} → k < length m.nodes → place_at nodes k ≡ at m k
  named {k} h = sym (place_is nodes rows n t k (rw (count-nodes nodes rows n t) at h))

  agree : All (Agree (place_at nodes) (at m)) (border m.tris)
  agree = only_keeps _ (All-joined arrows (All-imp (λ w N.
      cons (record { at_from = named N.p-below; at-to = named N.q-below })
      (cons (record { at_from = named N.q-below; at-to = named N.r-below })
      (cons (record { at_from = named N.r-below; at-to = named N.p-below }) nil))) law.named))

  clear-severity : clear (at m) (border m.tris) ≡ true → 0 ≡ severity m
  unfolding severity
  clear-severity c = let h = (proper-exact m law).0 (border-clear m law c) in rw (h.0, h.1)

  -- y is what the border's test said
  pub outlined : (y : Bool) → (y ≡ true → clear (place_at nodes) (border (items (row_at rows) 0 t)) ≡ true) → y ≡ true → 0 ≡ severity m
  unfolding mesh_at
  outlined y c e = clear-severity (sym (clear-same (place_at nodes) (at m) agree) ∙ c e)
