-- `eevee::both` meets its contract: `both_worked` of what the callees made. Assumes nothing.
use Rattle.eevee.proofs.Bodies.{both_worked}
use Rattle.eevee.proofs.both.Goals as goal

pub returns-clause-worked : goal.returns-clause-worked
returns-clause-worked c =
    let a = c.args in
    both_worked a.under.now a.v a.x _ c.body_tweak-t.ensures _ _ c.fork.ensures.forked c.from.ensures
