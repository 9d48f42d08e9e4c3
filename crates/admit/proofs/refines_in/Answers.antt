use Rattle.std.proofs.Common.{sym}
use Rattle.protocol.specs.declared.Kind.TheVariants.{Refine, Quarter, Red}
use Rattle.admit.specs.Steps.{refines-never}
use Rattle.admit.proofs.refines_in.Goals as goal

pub returns-in-None : goal.returns-in-None
returns-in-None c = let no = c.in-None.ensures in refines-never _ (λ e. no Refine (sym e)) (λ e. no Quarter (sym e)) (λ e. no Red (sym e))
