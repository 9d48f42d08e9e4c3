-- "The empty mesh (n = t = 0) is lawful": every call says 0 of it, in tables that fit, with no marks. Assumes nothing.
use Rattle.std.specs.Prelude.{[], ◌≡◌, refl, ℕ}
use Rattle.std.proofs.Common.{◌∙◌, arith}
use Rattle.lists.specs.Lists.{nil}
use Rattle.lists.specs.Search.{lowest, lowest_from, items, items_from}
use Rattle.meaning.specs.Mesh.{mesh}
use Rattle.meaning.specs.Lawful.{Lawful, compatible, first_clash}
use Rattle.meaning.specs.Proper.{first_crowded, first_overlap, uncrowded, disjoint}
use Rattle.meaning.specs.Split.{Way, closure, split_edges, split_at, split, refined}
use Rattle.meaning.specs.Tables.{Given, Room, mesh_of, room_of}
use Rattle.meaning.specs.Calls.{check_no, refine_no, check_out, refine_out, coarsen_out, restore_out}
use Rattle.laws.specs.Lawful.{lawful-refusal}
use Rattle.laws.specs.Marks.{WellMarked}
use Rattle.laws.specs.Refine.{refine-0}
use Rattle.laws.specs.CoarsenCalls.{coarsen-0}
use Rattle.laws.specs.CallLaw.{Sizes, sizes-exact, check-leaves, refine-leaves, coarsen-leaves, restore-leaves}

pub empty-lawful : Lawful (mesh [] [])
empty-lawful = record { range = nil; named = nil; no_twice = λ e. omega arith; positive = nil; used = λ z h. absurd (omega arith) }

no-marks : WellMarked 0 []
no-marks = record { as_many = refl; zero-or-one = nil }

refine-empty : (w : Way) (room : Room) → refine_no w room (mesh [] []) [] ≡ 0
unfolding closure split_edges split_at split refined
refine-empty w room = (refine-0 w room (mesh [] []) [] no-marks empty-lawful).1 (nil, record { nodes-fit = omega arith; rows_fit = omega arith })

check-empty : check_no (mesh [] []) ≡ 0
unfolding lowest lowest_from first_crowded first_overlap first_clash uncrowded disjoint compatible check_no
check-empty = rw (lawful-refusal (mesh [] []) empty-lawful)

module _ (g : Given) (no_node : g.n ≡ 0) (no_row : g.t ≡ 0) where
  mesh-empty : mesh_of g ≡ mesh [] []
  unfolding mesh_of items items_from
  mesh-empty = rw (no_node, no_row)

  pub check-of-empty : Sizes g 0 → (check_out g).answer.number ≡ 0
  check-of-empty s = (check-leaves g).check-number ∙ rw ((sizes-exact g 0).1 s, mesh-empty) check-empty

  module _ (n0 : ℕ) (s : Sizes g n0) where
    pub refine-of-empty : (w : Way) → (refine_out w g n0 []).answer.number ≡ 0
    refine-of-empty w = (refine-leaves g n0 w []).number-said ∙ rw ((sizes-exact g n0).1 s, mesh-empty) (refine-empty w (room_of g))

    pub coarsen-of-empty : (coarsen_out g n0 []).answer.number ≡ 0
    coarsen-of-empty = (coarsen-leaves g n0 []).number-said ∙ rw ((sizes-exact g n0).1 s, mesh-empty) ((coarsen-0 (mesh [] []) []).1 (no-marks, empty-lawful))

    pub restore-of-empty : (restore_out g n0).answer.number ≡ 0
    restore-of-empty = (restore-leaves g n0).number-said ∙ rw ((sizes-exact g n0).1 s, mesh-empty) (lawful-refusal (mesh [] []) empty-lawful)
