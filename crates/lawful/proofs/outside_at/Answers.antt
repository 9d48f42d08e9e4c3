use Rattle.lawful.specs.Tests.{outside_at}
use Rattle.lawful.proofs.outside_at.Goals as goal

pub returns : goal.returns
unfolding outside_at
returns c = cc
