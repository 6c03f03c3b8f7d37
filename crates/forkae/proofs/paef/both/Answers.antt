-- `forkae::paef::both` meets its contract: `both_paired` of what the callees made. Assumes nothing.
use Rattle.forkae.proofs.PaefSteps.{both_paired}
use Rattle.forkae.proofs.paef.both.Goals as goal

pub returns-clause-paired : goal.returns-clause-paired
returns-clause-paired c =
    let a = c.args in
    both_paired a.under.now a.flag a.s a.x _ c.tweak-t.ensures _ _ c.fork.ensures.forked c.from.ensures
