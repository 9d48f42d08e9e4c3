use Rattle.std.proofs.Common.{sym, ◌∙◌, ◌≡◌}
use Rattle.tables.specs.PutLaw.{cleared-from}
use Rattle.tables.proofs.clear_from.Goals as goal

pub returns : goal.returns
returns g c =
    let e : c.WIDTH.result ≡ g.R.Record.form.width = c.WIDTH.ensures ∙ sym g.met.R.Record.wide in
    rw e (cleared-from g.R.Record.form g.met.R.Record.faithful c.args.table.now c.clear.new.table c.args.k c.requires (rw e at c.clear.ensures))
