-- `eevee::seal_last` meets its contract: `sealed_last` of what `both` made. Assumes nothing.
use native.Mathlib.Omega.{arith}
use Rattle.eevee.proofs.Steps.{sealed_last}
use Rattle.eevee.proofs.seal_last.Goals as goal

pub returns-clause-stepped : goal.returns-clause-stepped
returns-clause-stepped c =
    sealed_last _ _ _ c.args.s c.args.x c.args.full c.last_mask.ensures c.end_number.ensures.0
    c.xored.ensures c.both-p.ensures.worked c.xored-2.ensures (omega (arith, c.xored-2.type_inv))
