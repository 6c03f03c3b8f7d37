-- `schedule::sixteen_on` meets its contract: eight steps of the tweak's cells and eight calls are a turn. Assumes nothing.
use mathlib.Core.Path.{refl}
use Rattle.schedule.proofs.Keys.{turn}
use Rattle.schedule.proofs.sixteen_on.Goals as goal

pub returns : goal.returns
returns g c =
    turn c.requires refl c.eight_steps-cells.ensures
    c.lay_two.ensures c.lay_two-2.ensures c.lay_two-3.ensures c.lay_two-4.ensures
    c.lay_two-5.ensures c.lay_two-6.ensures c.lay_two-7.ensures c.lay_two-8.ensures
