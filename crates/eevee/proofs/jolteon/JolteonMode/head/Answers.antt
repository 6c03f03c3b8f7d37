-- `eevee::jolteon::Jolteon::head` meets its contract: what holds of the family. Assumes nothing.
use Rattle.modes.specs.Jolteon.{jolteon}
use Rattle.eevee.proofs.Siblings.{reached_by_jolteon}
use Rattle.eevee.proofs.jolteon.JolteonMode.head.Goals as goal

pub returns-clause-stepped : goal.returns-clause-stepped
unfolding jolteon
returns-clause-stepped c = reached_by_jolteon (c.head.ensures.stepped _)
