-- `schedule::eight_steps` meets its contract: both loops keep `Stood`, the inner one of whatever cells the outer one began with.
-- Assumes nothing.
use native.Mathlib.Omega.{arith}
use Rattle.schedule.specs.Share.{tweak_step}
use Rattle.schedule.proofs.Standing.{stood_none, stood_more, stood_next, stood_all}
use Rattle.schedule.proofs.eight_steps.Goals as goal

pub loop-j-init : goal.loop-j-init
loop-j-init g c = stood_none (tweak_step g.K.Cell.width g.K.Tweaked.words) c.args.row c.args.share.now c.args.t c.args.sums.now (omega arith) c.requires.1

pub loop-k-preserved : goal.loop-k-preserved
loop-k-preserved g c =
    λ t s. stood_more (c.loop-k.invariant t s) c.loop-j-test.true c.loop-k-test.true c.step.ensures

pub loop-j-preserved : goal.loop-j-preserved
loop-j-preserved g c = stood_next (c.loop-k.invariant _ c.loop-j.invariant) c.loop-k-test.false

pub returns : goal.returns
returns g c = stood_all c.loop-j.invariant c.loop-j-test.false
