-- `forkskinny::laid::Laid::run` meets its contract: by cases. Assumes nothing.
use Rattle.forkskinny.proofs.laid.Laid.run.Goals as goal

pub returns-in-N64T192 : goal.returns-in-N64T192
returns-in-N64T192 c = rw c.in-N64T192.is c.run.ensures

pub returns-in-N128T256 : goal.returns-in-N128T256
returns-in-N128T256 c = rw c.in-N128T256.is c.run-in-N128T256.ensures
