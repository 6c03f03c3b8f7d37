-- `eevee::half` meets its contract: `half_worked` of what the callees made. Assumes nothing.
use Rattle.eevee.proofs.Bodies.{half_worked}
use Rattle.eevee.proofs.half.Goals as goal

pub returns-clause-worked : goal.returns-clause-worked
returns-clause-worked c = let a = c.args in half_worked a.under.now a.v a.x _ c.body_tweak-t.ensures _ c.fork-f.ensures.forked
