use Rattle.lawful.proofs.edge_below.Goals as goal

pub returns : goal.returns
returns c = cc
