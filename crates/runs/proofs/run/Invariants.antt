-- `runs::run` meets its contract: the loop keeps `Begun`. Assumes nothing.
use Prim.Native.Nat.{◌+◌}
use Rattle.cells.specs.Words.{seen}
use Rattle.rounds.specs.State.{sub_by}
use Rattle.rounds.specs.Words.{shown}
use Rattle.runs.proofs.Loops.{Begun}
use Rattle.runs.proofs.run.Given as goal

abbrev pub invariant-loop-i : goal.invariant-loop-i
invariant-loop-i g l =
    let w = g.K.Cell.width in Begun w (l.from + l.count) l.keys l.from (sub_by (seen w) (shown l.initial.x)) l.i (sub_by (seen w) (shown l.x))
