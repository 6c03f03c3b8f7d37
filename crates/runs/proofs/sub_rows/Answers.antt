-- `runs::sub_rows` meets its contract. Assumes nothing.
use Rattle.runs.proofs.Seen.{worked}
use Rattle.runs.proofs.sub_rows.Goals as goal

pub returns : goal.returns
returns g c = worked c.args.y c.sub.ensures c.sub-2.ensures c.sub-3.ensures c.sub-4.ensures
