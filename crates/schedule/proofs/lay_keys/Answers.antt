-- `schedule::lay_keys` meets its contract: the loop keeps `Keys`. Assumes nothing.
use native.Mathlib.Omega.{arith}
use Rattle.schedule.proofs.Keys.{keys_none, keys_more, keys_long, keys_all}
use Rattle.schedule.proofs.lay_keys.Goals as goal

pub loop-init : goal.loop-init
loop-init g c = keys_none g.K.Cell.width g.K.Tweaked.words c.args.share.now c.args.tweak c.args.keys.now

pub loop-preserved : goal.loop-preserved
loop-preserved g c = keys_more c.loop.invariant c.sixteen_on-u.ensures

pub returns : goal.returns
returns g c =
    let l = c.loop in
    (keys_long l.invariant c.requires c.lay_first.ensures, keys_all l.invariant c.requires (omega (arith, l.invariant.on)) c.lay_first.ensures)
