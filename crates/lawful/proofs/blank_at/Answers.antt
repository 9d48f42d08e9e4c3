use Rattle.lawful.specs.Tests.{blank_at}
use Rattle.lawful.proofs.blank_at.Goals as goal

pub returns : goal.returns
unfolding blank_at
returns c = cc
