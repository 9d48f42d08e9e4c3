use Rattle.job.specs.PassLaw.{pass-made}
use Rattle.job.proofs.full_pass.Goals as goal

pub returns : goal.returns
returns c = search pass-made
