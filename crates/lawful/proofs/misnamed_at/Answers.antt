use Rattle.lawful.specs.Tests.{misnamed_at}
use Rattle.lawful.proofs.misnamed_at.Goals as goal

pub returns : goal.returns
unfolding misnamed_at
returns c = cc
