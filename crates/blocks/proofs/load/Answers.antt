-- `blocks::load` meets its contract: a short part by `load_short`, any other by `load_full`.
-- Assumes nothing.
use native.Mathlib.Omega.{arith}
use Rattle.blocks.proofs.Loaded.{load_full, load_short}
use Rattle.blocks.proofs.load.Goals as goal

pub returns-then-part-n : goal.returns-then-part-n
returns-then-part-n c = rw c.front-b.ensures (load_short _ _ (omega arith) (omega arith))

pub returns-then-n-eq16 : goal.returns-then-n-eq16
returns-then-n-eq16 c = rw (c.front.ensures, c.if-n-eq16.true) (load_full _ _ _ (omega arith))

pub returns : goal.returns
returns c = rw c.front-2.ensures (load_full _ _ _ (omega arith))
