-- Laws of single steps, which the check finds alone today, or by newer laws. Assumes nothing.
use Rattle.std.specs.Prelude.{◌≡◌, List, ℕ, ℤ, length, replicate}
use Rattle.meaning.specs.declared.Answer.{Answer}
use Rattle.meaning.specs.Fault.{Fault}
use Rattle.meaning.specs.Coarsen.{coarsened}
use Rattle.meaning.specs.Tables.{given, outcome, answer}
use Rattle.meaning.specs.Calls.{coarsen_out}
use Rattle.laws.specs.Meshes.{mesh_at}
use Rattle.gather.specs.Whole as Gather
use Rattle.refusals.specs.declared.Counts.{Counts}
use Rattle.judging.specs.Judge.{early}
use Rattle.coarsening.specs.Coarsen.{refused, worked}

-- f is what was judged first; there is nothing more to judge
module _ (nodes : List ℤ) (rows s marks : List ℕ) (n0 n t : ℕ) (z : s ≡ replicate (length s) 0) (f : Fault) (e : f ≡ early (given nodes rows s n t) n0 n marks) where
  pub coarsen-refused : (r : Answer) → (f.number ≡ 0 → ⊥) → r ≡ answer f.number n t 0 f.at → outcome r nodes rows s ≡ coarsen_out (given nodes rows s n t) n0 marks
  coarsen-refused r o h = rw h (refused nodes rows s marks n0 n t z f e o)

  pub coarsen-worked : f.number ≡ 0 → (c : Counts) (a : List ℤ) (b : List ℕ) (r : Answer) →
      Gather.tabled c a b ≡ Gather.tabled_of (length nodes) (length rows) (coarsened n0 (mesh_at nodes rows n t) marks) → r ≡ answer 0 c.n c.t 0 0 →
      outcome r a b s ≡ coarsen_out (given nodes rows s n t) n0 marks
  coarsen-worked y c a b r q h = rw h (worked nodes rows s marks n0 n t z f e y c a b q)
