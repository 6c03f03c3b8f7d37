-- `eevee::jolteon::Jolteon::seal_block` meets its contract: `jolteon_sealed` of what `half` made. Assumes nothing.
use Rattle.eevee.proofs.Steps.{jolteon_sealed}
use Rattle.eevee.proofs.jolteon.JolteonMode.seal_block.Goals as goal

pub returns-clause-stepped : goal.returns-clause-stepped
returns-clause-stepped c = jolteon_sealed _ _ _ c.args.s c.args.x c.collected.ensures c.half-sealed.ensures.worked
