-- The searches by number are document 01's searches of the mesh in the tables. Assumes nothing.
use Rattle.std.specs.Prelude.{◌≡◌, List, ℕ, ◌≤◌, ◌<◌, ℤ, Option, Some, None}
use Rattle.std.proofs.Math.Path.{refl}
use Rattle.std.proofs.Common.{ap}
use native.Mathlib.Omega.{arith}
use Rattle.lists.specs.Lists.{any}
use Rattle.lists.specs.Search.{lowest, items}
use Rattle.lists.specs.SearchLaw.{or-three, lowest-where, lowest-any, lowest-agree}
use Rattle.lists.specs.IterLaw.{length-items, get_or-items, take-items}
use Rattle.meaning.specs.Fault.{Fault}
use Rattle.meaning.specs.Mesh.{arrow, holds_arrow, tri, twice_area}
use Rattle.meaning.specs.Lawful.{node_outside, misnamed, Named, repeats, flat, unused, or_later, fault_of, first_outside, first_misnamed, first_repeat, first_flat, first_unused}
use Rattle.meaning.specs.Tables.{node_at, row_at, given, mesh_of}
use Rattle.laws.specs.Meshes.{mesh-is, place_is}
use Rattle.plane.specs.Plane.{flat_tri}
use Rattle.tables.specs.Arrow.{arrow_at}
use Rattle.lawful.specs.Tests.{outside_at, misnamed_at, arrow_below, repeat_at, flat_at, later_by, fault_by}
use Rattle.lawful.specs.TestsLaw.{named-row, not-misnamed}

module _ (nodes : List ℤ) (l s : List ℕ) (n t : ℕ) where
  outside-is : lowest (outside_at nodes) 0 n ≡ first_outside (mesh_of (given nodes l s n t))
  unfolding first_outside mesh_of outside_at
  outside-is = lowest-where node_outside (node_at nodes) (outside_at nodes) n (λ j h. refl)

  misnamed-is : lowest (misnamed_at l n) 0 t ≡ first_misnamed (mesh_of (given nodes l s n t))
  unfolding first_misnamed mesh_of misnamed_at
  misnamed-is = rw (length-items (node_at nodes) n) (lowest-where (misnamed n) (row_at l) (misnamed_at l n) t (λ j h. refl))

  -- ---- 5

  arrow-below-is : (x y i : ℕ) → arrow_below l i x y ≡ any (holds_arrow (arrow x y)) (items (row_at l) 0 i)
  unfolding arrow_at
  arrow-below-is x y i = lowest-any (holds_arrow (arrow x y)) (row_at l) (arrow_at l x y) i (λ j h. refl)

  repeat-row : (i : ℕ) → i < t → repeat_at l i ≡ repeats (items (row_at l) 0 t) i
  unfolding repeat_at
  repeat-row i h =
      let b : i ≤ t = omega arith in
      let w = row_at l i in
      rw (get_or-items (row_at l) t i (tri 0 0 0) h, take-items (row_at l) t i b, arrow-below-is w.p w.q i, arrow-below-is w.q w.r i, arrow-below-is w.r w.p i)
      (or-three
      (any (holds_arrow (arrow w.p w.q)) (items (row_at l) 0 i))
      (any (holds_arrow (arrow w.q w.r)) (items (row_at l) 0 i))
      (any (holds_arrow (arrow w.r w.p)) (items (row_at l) 0 i)))

  repeat-is : lowest (repeat_at l) 0 t ≡ first_repeat (mesh_of (given nodes l s n t))
  unfolding first_repeat mesh_of
  repeat-is = rw (length-items (row_at l) t) (lowest-agree (repeat_at l) (repeats (items (row_at l) 0 t)) t repeat-row)

  -- ---- 6

  flat-row : (i : ℕ) → Named n (row_at l i) → flat_at nodes l i ≡ flat (mesh_of (given nodes l s n t)) (row_at l i)
  unfolding flat_at flat_tri twice_area
  flat-row i h =
      rw (
        mesh-is nodes l n t s,
        place_is nodes l n t (row_at l i).p h.p-below,
        place_is nodes l n t (row_at l i).q h.q-below,
        place_is nodes l n t (row_at l i).r h.r-below,
      )

  flat-is : lowest (misnamed_at l n) 0 t ≡ None → lowest (flat_at nodes l) 0 t ≡ first_flat (mesh_of (given nodes l s n t))
  unfolding first_flat mesh_of
  flat-is e = lowest-where (flat (mesh_of (given nodes l s n t))) (row_at l) (flat_at nodes l) t (λ i h. flat-row i (named-row (row_at l i) l n i refl (not-misnamed l n t i e h)))

  -- ---- 7

  unused-is : lowest (unused (items (row_at l) 0 t)) 0 n ≡ first_unused (mesh_of (given nodes l s n t))
  unfolding first_unused mesh_of
  unused-is = rw (length-items (node_at nodes) n)

  -- ---- all

  after-named : (f : Option ℕ) → lowest (misnamed_at l n) 0 t ≡ f → (x y : Fault) → (f ≡ None → x ≡ y) → or_later 4 f x ≡ or_later 4 f y
  after-named (Some i) e x y h = refl
  after-named None e x y h = h refl

  pub fault_by-is : fault_by nodes l n t ≡ fault_of (mesh_of (given nodes l s n t))
  unfolding fault_by later_by fault_of
  fault_by-is =
      rw (← outside-is, ← misnamed-is, ← repeat-is, ← unused-is)
      (ap (or_later 3 (lowest (outside_at nodes) 0 n))
      (after-named (lowest (misnamed_at l n) 0 t) refl _ _ (λ e. rw (flat-is e))))
