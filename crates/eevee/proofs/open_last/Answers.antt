-- `eevee::open_last` meets its contract: `opened_last` of what `back` made. Assumes nothing.
use native.Mathlib.Omega.{arith}
use Rattle.eevee.proofs.Steps.{opened_last}
use Rattle.eevee.proofs.open_last.Goals as goal

pub returns-clause-stepped : goal.returns-clause-stepped
returns-clause-stepped c =
    opened_last _ _ _ c.args.s c.args.x c.args.full c.last_mask.ensures c.end_number.ensures.0
    c.back-p.ensures.worked c.xored-first.ensures c.xored.ensures (omega (arith, c.xored-first.type_inv)) (omega (arith, c.xored.type_inv))
