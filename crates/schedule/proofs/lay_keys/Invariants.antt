-- `schedule::lay_keys` meets its contract: the loop keeps `Keys`. Assumes nothing.
use Rattle.schedule.proofs.Keys.{Keys}
use Rattle.schedule.proofs.lay_keys.Given as goal

abbrev pub invariant-loop : goal.invariant-loop
invariant-loop g l = Keys g.K.Cell.width g.K.Tweaked.words l.share l.tweak l.initial.keys l.counter l.u l.keys
