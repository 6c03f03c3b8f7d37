-- `eevee::umbreon::Umbreon::seal_last` meets its contract: what holds of the family. Assumes nothing.
use Rattle.modes.specs.Umbreon.{umbreon}
use Rattle.eevee.proofs.umbreon.UmbreonMode.seal_last.Goals as goal

pub returns-clause-stepped : goal.returns-clause-stepped
unfolding umbreon
returns-clause-stepped c = c.seal_last.ensures.stepped _
