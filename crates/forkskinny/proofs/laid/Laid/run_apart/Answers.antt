-- `forkskinny::laid::Laid::run_apart` meets its contract: by cases. Assumes nothing.
use Rattle.forkskinny.proofs.laid.Laid.run_apart.Goals as goal

pub returns-in-N64T192 : goal.returns-in-N64T192
returns-in-N64T192 c = rw c.in-N64T192.is c.run_apart.ensures

pub returns-in-N128T256 : goal.returns-in-N128T256
returns-in-N128T256 c = rw c.in-N128T256.is c.run_apart-in-N128T256.ensures
