-- `runs::unrun` meets its contract: the loop keeps `Left`. Assumes nothing.
use Prim.Native.Nat.{◌+◌}
use Rattle.cells.specs.Words.{seen}
use Rattle.rounds.specs.State.{sub_by}
use Rattle.rounds.specs.Words.{shown}
use Rattle.runs.proofs.Loops.{Left}
use Rattle.runs.proofs.unrun.Given as goal

abbrev pub invariant-loop-i : goal.invariant-loop-i
invariant-loop-i g l =
    let w = g.K.Cell.width in Left w (l.from + l.count) l.keys l.from (sub_by (seen w) (shown l.initial.x)) l.count l.i (sub_by (seen w) (shown l.x))
