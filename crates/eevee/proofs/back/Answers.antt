-- `eevee::back` meets its contract: `back_worked` of what the callees made. Assumes nothing.
use Rattle.eevee.proofs.Bodies.{back_worked}
use Rattle.eevee.proofs.back.Goals as goal

pub returns-clause-worked : goal.returns-clause-worked
returns-clause-worked c =
    let a = c.args in
    back_worked a.under.now a.v a.x _ c.body_tweak-t.ensures _ _ c.unfork.ensures.unforked c.from.ensures
