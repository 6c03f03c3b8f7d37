-- `eevee::umbreon::Umbreon::open_last` meets its contract: what holds of the family. Assumes nothing.
use Rattle.modes.specs.Umbreon.{umbreon}
use Rattle.eevee.proofs.umbreon.UmbreonMode.open_last.Goals as goal

pub returns-clause-stepped : goal.returns-clause-stepped
unfolding umbreon
returns-clause-stepped c = c.open_last.ensures.stepped _
