-- `runs::run` meets its contract: the loop keeps `Begun`. Assumes nothing.
use mathlib.Core.Path.{refl, ap, ◌∙◌}
use Prim.Native.Nat.{◌+◌, ◌-◌}
use native.Mathlib.Omega.{arith}
use Rattle.cells.specs.Words.{seen}
use Rattle.rounds.specs.State.{sub_by}
use Rattle.rounds.specs.Words.{shown}
use Rattle.runs.proofs.Loops.{begun_none}
use Rattle.runs.proofs.Seen.{kind, turn_forward, end_forward}
use Rattle.runs.proofs.run.Goals as goal

pub loop-i-init : goal.loop-i-init
loop-i-init g c = begun_none

pub loop-i-preserved : goal.loop-i-preserved
loop-i-preserved g c =
    let a = c.args in
    turn_forward (kind g.K.Cell.width) a.keys.now a.from c.loop-i.i _ refl (omega arith) (shown c.loop-i.x) _ c.linear_with.ensures c.loop-i.invariant c.sub_rows-x-in-loop-i.ensures

pub returns : goal.returns
returns g c =
    let a = c.args in
    let w = g.K.Cell.width in
    end_forward (kind w) a.keys.now a.from c.loop-i.i (a.from + (a.count - 1)) (omega arith) (omega arith) (shown c.loop-i.x) _ c.linear_with-2.ensures
    (omega arith) c.sub_rows-x.ensures c.loop-i.invariant a.s c.words_of.ensures (c.seen_of.ensures ∙ ap (sub_by (seen w)) c.state_of.ensures)
