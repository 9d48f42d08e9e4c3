-- A base that the check admits is lawful and has a compatible labelling, which is what demand 3 asks of it. (That each number is given exactly when its
-- line says stands in crates/proper, which knows what 11 and 12 mean.) Assumes nothing.
use Rattle.std.specs.Prelude.{◌≡◌}
use Rattle.std.proofs.Common.{arith}
use Rattle.meaning.specs.Mesh.{Mesh}
use Rattle.meaning.specs.Lawful.{Lawful, Compatible, refusal, compatible}
use Rattle.meaning.specs.Proper.{uncrowded, disjoint}
use Rattle.meaning.specs.Calls.{check_no}
use Rattle.laws.specs.Lawful.{refusal-lawful, compatible-exact}
use Rattle.laws.specs.Numbers.{unless-done, or_else-done}

module _ (m : Mesh) where
  pub check-passed : check_no m ≡ 0 → Lawful m × Compatible m
  unfolding check_no
  check-passed e =
      let a = or_else-done (refusal m) _ e in
      let b = unless-done (uncrowded m) 11 _ (omega arith) a.1 in
      let c = unless-done (disjoint m) 12 _ (omega arith) b.1 in
      let d = unless-done (compatible m) 10 _ (omega arith) c.1 in
      (refusal-lawful m a.0, (compatible-exact m).0 d.0)
