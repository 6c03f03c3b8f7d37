-- `schedule::NibblesLastByte::change_last` meets its contract: after i turns the change is stepped 8i times, and the odd rows to there are corrected.
-- Assumes nothing.
use mathlib.Core.Path.{◌≡◌}
use Prim.Native.Nat.{◌*◌, ◌/◌, ◌%◌}
use Rattle.cells.specs.Cells.{Nibble, step3}
use Rattle.schedule.specs.Sixteen.{times}
use Rattle.schedule.specs.Change.{places14, places15, corrected, OddRows}
use Rattle.schedule.proofs.NibblesLastByte.change_last.Given as goal

abbrev pub invariant-loop-i : goal.invariant-loop-i
invariant-loop-i l =
    (l.x ≡ times (step3 Nibble) (8 * l.i) (l.d / 16)) × (l.y ≡ times (step3 Nibble) (8 * l.i) (l.d % 16))
    × OddRows (λ k r. corrected (step3 Nibble) places15 (l.d % 16) k (corrected (step3 Nibble) places14 (l.d / 16) k r)) 0 (8 * l.i) l.initial.keys l.keys
