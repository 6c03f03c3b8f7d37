-- `runs::both::BytesSideBySide::run_both` meets its contract: the loop keeps `Begun` of both states. Assumes nothing.
use Prim.Native.Nat.{◌+◌}
use Rattle.cells.specs.Cells.{Byte}
use Rattle.rounds.specs.Words.{shown}
use Rattle.runs.proofs.Loops.{Begun}
use Rattle.runs.proofs.both.BytesSideBySide.run_both.Given as goal

abbrev pub invariant-loop-i : goal.invariant-loop-i
invariant-loop-i l = Begun Byte (l.from + l.count + l.count) l.keys l.from (shown l.initial.x) l.i (shown l.x) × Begun Byte (l.from + l.count + l.count) l.keys (l.from + l.count) (shown l.initial.y) l.i (shown l.y)
