use Rattle.lawful.specs.MarkLaw.{unmarked, marks-gone}
use Rattle.lawful.proofs.first_unused.Goals as goal

pub returns-clause-answer : goal.returns-clause-answer
returns-clause-answer c = search unmarked

pub returns-clause-same : goal.returns-clause-same
returns-clause-same c = search marks-gone
