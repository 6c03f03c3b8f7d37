-- `forkae::paef::Paef::seal_last` meets its contract: `last_paired` of what `both` made. Assumes nothing.
use native.Mathlib.Omega.{arith}
use Rattle.forkae.proofs.PaefSteps.{last_paired}
use Rattle.forkae.proofs.paef.PaefMode.seal_last.Goals as goal

pub returns-clause-stepped : goal.returns-clause-stepped
returns-clause-stepped c = last_paired _ _ _ c.body_flag.ensures.0 c.both-p.ensures.paired c.xored.ensures (omega (arith, c.xored.type_inv))
