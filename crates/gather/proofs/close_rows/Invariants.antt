use Rattle.gather.specs.Closing.{row_renewing}
use Rattle.gather.proofs.close_rows.Given as goal

abbrev pub ghost-close : goal.ghost-close
ghost-close a = row_renewing a.after.0.now a.after.1.now
