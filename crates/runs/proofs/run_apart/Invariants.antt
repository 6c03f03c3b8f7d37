-- `runs::run_apart` meets its contract: the first loop keeps `Left` of one state and `Begun` of the other, and the second goes on with this
-- one. Assumes nothing.
use Prim.Native.Nat.{◌+◌, ◌-◌}
use Rattle.cells.specs.Words.{seen}
use Rattle.rounds.specs.State.{State, sub_by}
use Rattle.rounds.specs.Words.{shown}
use Rattle.runs.proofs.Loops.{Begun, Left}
use Rattle.runs.proofs.run_apart.Given as goal

abbrev pub invariant-loop-i : goal.invariant-loop-i
invariant-loop-i g l =
    let w = g.K.Cell.width in
    Left w (l.from + l.count) l.keys 0 (sub_by (seen w) (shown l.initial.x)) l.n (l.n - l.i) (sub_by (seen w) (shown l.x))
    × Begun w (l.from + l.count) l.keys l.from (sub_by (seen w) (shown l.initial.y)) l.i (sub_by (seen w) (shown l.y))

abbrev pub invariant-loop-i-2 : goal.invariant-loop-i-2
invariant-loop-i-2 g l =
    let w = g.K.Cell.width in
    (s : State) → Begun w (l.from + l.count) l.keys l.from s l.n (sub_by (seen w) (shown l.initial.y)) → Begun w (l.from + l.count) l.keys l.from s l.i (sub_by (seen w) (shown l.y))
