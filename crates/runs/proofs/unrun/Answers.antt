-- `runs::unrun` meets its contract: the loop keeps `Left`. Assumes nothing.
use mathlib.Core.Path.{◌≡◌, refl, ap, ◌∙◌}
use Prim.Native.Nat.{◌-◌}
use native.Mathlib.Omega.{arith}
use Rattle.cells.specs.Words.{seen}
use Rattle.rounds.specs.State.{sub_by}
use Rattle.rounds.specs.Words.{shown}
use Rattle.runs.proofs.Loops.{left_all}
use Rattle.runs.proofs.Seen.{kind, turn_back, end_back}
use Rattle.runs.proofs.unrun.Goals as goal

pub loop-i-init : goal.loop-i-init
loop-i-init g c = left_all refl

pub loop-i-preserved : goal.loop-i-preserved
loop-i-preserved g c =
    let a = c.args in
    turn_back (kind g.K.Cell.width) a.keys.now a.from (c.loop-i.i - 1) _ refl (omega arith) (shown c.loop-i.x) (omega arith) c.loop-i.invariant c.unlinear_with.ensures c.unsub_rows-x.ensures

pub returns : goal.returns
returns g c =
    let w = g.K.Cell.width in
    let none : c.loop-i.i ≡ 0 = omega arith in
    end_back (kind w) (shown c.loop-i.x) c.requires.0 (rw none at c.loop-i.invariant) c.args.s c.words_of-x.ensures (c.seen_of.ensures ∙ ap (sub_by (seen w)) c.state_of.ensures)
