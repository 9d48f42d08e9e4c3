use Rattle.gather.specs.Closing.{node_renewing}
use Rattle.gather.proofs.close_nodes.Given as goal

abbrev pub ghost-close : goal.ghost-close
ghost-close a = node_renewing a.after.0.now a.after.1.now
