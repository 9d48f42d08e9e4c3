-- Document 01's number and culprit for each refusal, and what a call says. Assumes nothing.
use Rattle.std.specs.Prelude.{ℕ, Result, Ok, Err}
use Rattle.meaning.specs.declared.Answer.{Answer}
use Rattle.meaning.specs.Fault.{Fault}
use Rattle.meaning.specs.Lawful.{fault}
use Rattle.meaning.specs.Tables.{answer}
use Rattle.refusals.specs.declared.Counts.{Counts}
use Rattle.refusals.specs.declared.Refusal.{Refusal}
use Rattle.refusals.specs.declared.Refusal.TheVariants.{Sizes, Marks, OutOfRange, Misnamed, Repeated, Flat, Unused, Odd, Full, Clashing, Touching, Lapping, BaseNode, Nowhere, NoNode}

abbrev pub fault_in : Refusal → Fault
fault_in Sizes = fault 1 0
fault_in Marks = fault 2 0
fault_in (OutOfRange z) = fault 3 z
fault_in (Misnamed i) = fault 4 i
fault_in (Repeated i) = fault 5 i
fault_in (Flat i) = fault 6 i
fault_in (Unused z) = fault 7 z
fault_in Odd = fault 8 0
fault_in Full = fault 9 0
fault_in Clashing = fault 10 0
fault_in Touching = fault 11 0
fault_in Lapping = fault 12 0
fault_in BaseNode = fault 13 0
fault_in Nowhere = fault 14 0
fault_in NoNode = fault 15 0

-- what stands in the way, if anything
abbrev pub verdict : {A : Type 0} → Result A Refusal → Fault
verdict (Ok a) = fault 0 0
verdict (Err r) = fault_in r

abbrev pub answer_in : Result Counts Refusal → ℕ → ℕ → Answer
answer_in (Ok c) n t = answer 0 c.n c.t 0 0
answer_in (Err r) n t = answer (fault_in r).number n t 0 (fault_in r).at
