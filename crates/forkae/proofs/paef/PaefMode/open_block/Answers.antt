-- `forkae::paef::Paef::open_block` meets its contract: a pair by `back`, its second block added to S. Assumes nothing.
use Rattle.modes.specs.Paef.{paef}
use Rattle.forkae.proofs.PaefSteps.{summed}
use Rattle.forkae.proofs.paef.PaefMode.open_block.Goals as goal

pub returns-clause-stepped : goal.returns-clause-stepped
unfolding paef
returns-clause-stepped c = summed c.back.ensures.paired c.added.ensures
