-- `runs::both::NibblesSideBySide::run_both` meets its contract: the loop keeps `BothBegun`. Assumes nothing.
use Prim.Native.Nat.{◌+◌}
use Rattle.rounds.specs.Words.{shown}
use Rattle.runs.proofs.Seen.{BothBegun}
use Rattle.runs.proofs.both.NibblesSideBySide.run_both.Given as goal

abbrev pub invariant-loop-i : goal.invariant-loop-i
invariant-loop-i l = BothBegun (l.from + l.count + l.count) l.keys l.from (l.from + l.count) (shown l.initial.x) l.i (shown l.x)
