-- 2: the marks, by the library's words. Assumes nothing.
use Rattle.std.specs.Prelude.{◌≡◌, refl, Bool, List, [], ◌∷◌, ℕ, leb, length}
use Rattle.std.proofs.Common.{◌∙◌}
use Rattle.std.proofs.lemmas.Bool.{eq-eqb}
use Rattle.std.specs.List.{list_all}
use Rattle.lists.specs.Lists.{all}
use Rattle.meaning.specs.Calls.{marks_fit}

all-listed : {A : Type 0} (f : A → Bool) (l : List A) → list_all f l ≡ all f l
all-listed f [] = refl
all-listed f (x ∷ xs) = rw (all-listed f xs)

pub marks-fit-is : (marks : List ℕ) (k : ℕ) (b : Bool) → length marks ≡ k → b ≡ list_all (λ m. leb m 1) marks → b ≡ marks_fit k marks
marks-fit-is marks k b e h = rw (eq-eqb (length marks) k e) (h ∙ all-listed (λ m. leb m 1) marks)
