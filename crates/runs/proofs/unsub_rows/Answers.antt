-- `runs::unsub_rows` meets its contract. Assumes nothing.
use Rattle.runs.proofs.Seen.{worked}
use Rattle.runs.proofs.unsub_rows.Goals as goal

pub returns : goal.returns
returns g c = worked c.args.y c.unsub.ensures c.unsub-2.ensures c.unsub-3.ensures c.unsub-4.ensures
