-- `forkae::saef::Saef::open_block` meets its contract: a pair by `back`, its second block the next Δ. Assumes nothing.
use native.Mathlib.Omega.{arith}
use Rattle.modes.specs.Saef.{saef}
use Rattle.forkae.proofs.SaefSteps.{moved_stepped}
use Rattle.forkae.proofs.saef.SaefMode.open_block.Goals as goal

pub returns-clause-stepped : goal.returns-clause-stepped
unfolding saef
returns-clause-stepped c = moved_stepped c.back.ensures.paired c.moved.ensures (omega (arith, c.moved.type_inv))
