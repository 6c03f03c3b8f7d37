-- `prepared::lay_128_256` meets its contract: its loop lays the share row by row. Assumes nothing.
use mathlib.Core.Path.{refl}
use native.Mathlib.Omega.{arith}
use Rattle.prepared.proofs.Loops.{rows_more, rows_done}
use Rattle.prepared.proofs.lay_128_256.Goals as goal

pub loop-k-init : goal.loop-k-init
loop-k-init c = record { room = c.requires; said = refl }

pub loop-k-preserved : goal.loop-k-preserved
loop-k-preserved c = rows_more c.loop-k.invariant c.loop-k-test.true (omega arith) c.copy_from_slice.ensures.after (omega arith)

pub returns : goal.returns
returns c = rows_done c.loop-k.invariant c.loop-k-test.false
