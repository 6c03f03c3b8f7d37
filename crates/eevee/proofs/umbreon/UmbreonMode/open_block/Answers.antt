-- `eevee::umbreon::Umbreon::open_block` meets its contract: `umbreon_opened` of what `back` made. Assumes nothing.
use native.Mathlib.Omega.{arith}
use Rattle.eevee.proofs.Steps.{umbreon_opened}
use Rattle.eevee.proofs.umbreon.UmbreonMode.open_block.Goals as goal

pub returns-clause-stepped : goal.returns-clause-stepped
returns-clause-stepped c =
    umbreon_opened _ _ _ c.args.s c.args.x c.linked.ensures c.xored.ensures (omega (arith, c.xored.type_inv)) c.back-p.ensures.worked
