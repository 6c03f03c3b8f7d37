-- `forkae::paef::back` meets its contract: `back_paired` of what the callees made. Assumes nothing.
use Rattle.forkae.proofs.PaefSteps.{back_paired}
use Rattle.forkae.proofs.paef.back.Goals as goal

pub returns-clause-paired : goal.returns-clause-paired
returns-clause-paired c =
    let a = c.args in
    back_paired a.under.now a.flag a.s a.x _ c.tweak-t.ensures _ _ c.unfork.ensures.unforked c.from.ensures
