-- `eevee::jolteon::Jolteon::open_block` meets its contract: `jolteon_opened` of what `input` made. Assumes nothing.
use Rattle.eevee.proofs.Steps.{jolteon_opened}
use Rattle.eevee.proofs.jolteon.JolteonMode.open_block.Goals as goal

pub returns-clause-stepped : goal.returns-clause-stepped
returns-clause-stepped c = jolteon_opened _ _ _ c.args.s c.args.x c.collected.ensures c.input-block.ensures.worked
