-- `eevee::input` meets its contract: `input_worked` of what the callees made. Assumes nothing.
use Rattle.eevee.proofs.Bodies.{input_worked}
use Rattle.eevee.proofs.input.Goals as goal

pub returns-clause-worked : goal.returns-clause-worked
returns-clause-worked c = let a = c.args in input_worked a.under.now a.v a.x _ c.body_tweak-t.ensures _ c.unfork-u.ensures.unforked
