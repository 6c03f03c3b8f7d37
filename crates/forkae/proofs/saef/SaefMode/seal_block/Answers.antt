-- `forkae::saef::Saef::seal_block` meets its contract: a pair by `both`, its second block the next Δ. Assumes nothing.
use native.Mathlib.Omega.{arith}
use Rattle.modes.specs.Saef.{saef}
use Rattle.forkae.proofs.SaefSteps.{moved_stepped}
use Rattle.forkae.proofs.saef.SaefMode.seal_block.Goals as goal

pub returns-clause-stepped : goal.returns-clause-stepped
unfolding saef
returns-clause-stepped c = moved_stepped c.both.ensures.paired c.moved.ensures (omega (arith, c.moved.type_inv))
