-- `ciphers::lay_keys` meets its contract: by cases. Assumes nothing.
use Rattle.ciphers.specs.Ciphers.{tweak_cells}
use Rattle.ciphers.proofs.lay_keys.Goals as goal

pub returns-in-N64T192 : goal.returns-in-N64T192
unfolding tweak_cells
returns-in-N64T192 c = rw c.in-N64T192.is (rw c.tweak_nibbles.ensures at c.lay_keys.ensures)

pub returns-in-N128T256 : goal.returns-in-N128T256
unfolding tweak_cells
returns-in-N128T256 c = rw c.in-N128T256.is (rw c.tweak_bytes.ensures at c.lay_keys-in-N128T256.ensures)
