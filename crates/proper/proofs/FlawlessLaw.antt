-- The lawful, proper meshes are exactly those in which the tests find nothing; and every accepted refine keeps them so. Assumes nothing.
use Rattle.std.specs.Prelude.{true, List, ◌↔◌, ◌≡◌, ℕ}
use Rattle.std.proofs.Common.{sym, subst}
use Rattle.meaning.specs.Mesh.{Mesh}
use Rattle.meaning.specs.Lawful.{refusal}
use Rattle.meaning.specs.declared.Quarters.{Quarters}
use Rattle.meaning.specs.Split.{Way, cutting_of, refined}
use Rattle.meaning.specs.Tables.{Room}
use Rattle.meaning.specs.Calls.{refine_no}
use Rattle.meaning.specs.Proper.{uncrowded, disjoint}
use Rattle.laws.specs.Lawful.{refusal-lawful, lawful-refusal}
use Rattle.laws.specs.Cut.{CutLaws}
use Rattle.laws.specs.Red.{quarters-laws}
use Rattle.laws.specs.Refine.{refine-halves}
use Rattle.proper.proofs.ProperLaw.{proper-exact}
use Rattle.proper.specs.Dissects.{Dissects}
use Rattle.proper.proofs.RedDissects.{quarters-dissect}
use Rattle.proper.specs.Flawless.{Flawless, refined-flawless}

-- EXACTLY THE MESHES IN WHICH THE TESTS FIND NOTHING
pub flawless-exact : (m : Mesh) → Flawless m ↔ ((refusal m ≡ 0) × (uncrowded m ≡ true) × (disjoint m ≡ true))
flawless-exact m = (
  λ F. (let h = (proper-exact m F.lawful).0 F.proper in (lawful-refusal m F.lawful, h.0, h.1)),
  λ h. (let law = refusal-lawful m h.0 in record { lawful = law; proper = (proper-exact m law).1 (h.1, h.2) }),
)

-- so does every accepted refine, however it quarters
pub refine-flawless : (w : Way) (q : Quarters) → w.cutting ≡ cutting_of q → (room : Room) (m : Mesh) (marks : List ℕ) → refine_no w room m marks ≡ 0 → Flawless m → Flawless (refined w m marks)
refine-flawless w q cuts room m marks e =
    refined-flawless w (subst CutLaws (sym cuts) (quarters-laws q)) (subst Dissects (sym cuts) (quarters-dissect q)) m marks (refine-halves w room m marks e)
