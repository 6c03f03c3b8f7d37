-- `schedule::cell_on` meets its contract: the loop keeps `CellOn`. Assumes nothing.
use Rattle.schedule.specs.Share.{tweak_step}
use Rattle.schedule.specs.Change.{CellOn}
use Rattle.schedule.proofs.cell_on.Given as goal

abbrev pub invariant-loop-k : goal.invariant-loop-k
invariant-loop-k g l = CellOn (tweak_step g.K.Cell.width g.K.Tweaked.words) l.places l.i l.k l.x l.initial.keys l.y l.keys
