-- `forkae::saef::Saef::seal_last` meets its contract: a pair by `both`, Δ off its first block. Assumes nothing.
use native.Mathlib.Omega.{arith}
use Rattle.modes.specs.Saef.{saef}
use Rattle.forkae.proofs.SaefSteps.{unmasked_paired}
use Rattle.forkae.proofs.saef.SaefMode.seal_last.Goals as goal

pub returns-clause-stepped : goal.returns-clause-stepped
unfolding saef
returns-clause-stepped c =
    unmasked_paired (rw c.body_flag.ensures.0 at c.both.ensures.paired) c.unmasked.ensures (omega (arith, c.unmasked.type_inv))
