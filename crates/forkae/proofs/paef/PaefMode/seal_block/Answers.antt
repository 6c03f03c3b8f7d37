-- `forkae::paef::Paef::seal_block` meets its contract: a pair by `both`, its second block added to S. Assumes nothing.
use Rattle.modes.specs.Paef.{paef}
use Rattle.forkae.proofs.PaefSteps.{summed}
use Rattle.forkae.proofs.paef.PaefMode.seal_block.Goals as goal

pub returns-clause-stepped : goal.returns-clause-stepped
unfolding paef
returns-clause-stepped c = summed c.both.ensures.paired c.added.ensures
