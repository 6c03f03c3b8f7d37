-- `eevee::jolteon::Jolteon::seal_last` meets its contract: what holds of the family. Assumes nothing.
use Rattle.modes.specs.Jolteon.{jolteon}
use Rattle.eevee.proofs.Siblings.{for_jolteon}
use Rattle.eevee.proofs.jolteon.JolteonMode.seal_last.Goals as goal

pub returns-clause-stepped : goal.returns-clause-stepped
unfolding jolteon
returns-clause-stepped c = for_jolteon (c.seal_last.ensures.stepped _)
