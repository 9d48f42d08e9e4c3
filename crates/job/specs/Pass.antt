-- A full pass in tables, and what is left to do after some passes. Assumes nothing.
use Rattle.std.specs.Prelude.{ℕ, ◌+◌, min, eqb, replicate}
use Rattle.lists.specs.Lists.{cases}
use Rattle.meaning.specs.Tables.{Given, Outcome, outcome, answer}
use Rattle.meaning.specs.Calls.{coarsen_out}

-- coarsen with all nodes marked
unfoldable pub pass_out : Given → ℕ → Outcome
pass_out g n0 = coarsen_out g n0 (replicate (min g.n 1024) 1)

-- o, after p passes more were made; where it is refused, with the counts that were given at first and the culprit of o
unfoldable pub after : ℕ → ℕ → ℕ → Outcome → Outcome
after p n t o =
    cases (eqb o.answer.number 0)
    (outcome (answer 0 o.answer.n o.answer.t (p + o.answer.passes) 0) o.nodes o.rows o.scratch)
    (outcome (answer o.answer.number n t 0 o.answer.culprit) o.nodes o.rows o.scratch)
