-- `eevee::umbreon::Umbreon::seal_block` meets its contract: `umbreon_sealed` of what `both` made. Assumes nothing.
use Rattle.eevee.proofs.Steps.{umbreon_sealed}
use Rattle.eevee.proofs.umbreon.UmbreonMode.seal_block.Goals as goal

pub returns-clause-stepped : goal.returns-clause-stepped
returns-clause-stepped c = umbreon_sealed _ _ _ c.args.s c.args.x c.linked.ensures c.xored.ensures c.both-p.ensures.worked
