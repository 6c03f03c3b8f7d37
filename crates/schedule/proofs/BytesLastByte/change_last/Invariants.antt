-- `schedule::BytesLastByte::change_last` meets its contract: after i turns the change is stepped 8i times, and the odd rows to there are corrected.
-- Assumes nothing.
use mathlib.Core.Path.{◌≡◌}
use Prim.Native.Nat.{◌*◌}
use Rattle.cells.specs.Cells.{Byte, step2}
use Rattle.schedule.specs.Sixteen.{times}
use Rattle.schedule.specs.Change.{places15, corrected, OddRows}
use Rattle.schedule.proofs.BytesLastByte.change_last.Given as goal

abbrev pub invariant-loop-i : goal.invariant-loop-i
invariant-loop-i l = (l.x ≡ times (step2 Byte) (8 * l.i) l.d) × OddRows (corrected (step2 Byte) places15 l.d) 0 (8 * l.i) l.initial.keys l.keys
