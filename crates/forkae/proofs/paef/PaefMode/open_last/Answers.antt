-- `forkae::paef::Paef::open_last` meets its contract: `unlast_paired` of what `back` made. Assumes nothing.
use Rattle.forkae.proofs.PaefSteps.{unlast_paired}
use Rattle.forkae.proofs.paef.PaefMode.open_last.Goals as goal

pub returns-clause-stepped : goal.returns-clause-stepped
returns-clause-stepped c = unlast_paired _ _ _ c.body_flag.ensures.0 c.xored.ensures c.back.ensures.paired
