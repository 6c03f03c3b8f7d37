-- `schedule::cell_on` meets its contract: the loop keeps `CellOn`. Assumes nothing.
use Prim.Native.Nat.{◌<◌}
use native.Mathlib.Omega.{arith}
use Rattle.schedule.proofs.OddRows.{cell_none, cell_more, cell_all}
use Rattle.schedule.proofs.cell_on.Goals as goal

pub loop-k-init : goal.loop-k-init
loop-k-init g c = cell_none

pub loop-k-preserved : goal.loop-k-preserved
loop-k-preserved g c =
    let k : c.loop-k.k < 8 = omega arith in cell_more c.requires.0 k c.requires.1 c.loop-k.invariant c.step-y.ensures c.lay_cell.ensures

pub returns : goal.returns
returns g c = cell_all (omega arith) c.loop-k-test.false c.loop-k.invariant
