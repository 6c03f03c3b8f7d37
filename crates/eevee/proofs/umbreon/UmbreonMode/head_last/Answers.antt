-- `eevee::umbreon::Umbreon::head_last` meets its contract: what holds of the family. Assumes nothing.
use Rattle.modes.specs.Umbreon.{umbreon}
use Rattle.eevee.proofs.umbreon.UmbreonMode.head_last.Goals as goal

pub returns-clause-stepped : goal.returns-clause-stepped
unfolding umbreon
returns-clause-stepped c = c.head_last.ensures.stepped _
