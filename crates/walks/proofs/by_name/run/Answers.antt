-- `walks::by_name::run` meets its contract: by the mode's name, under the key that was set to work. Assumes nothing.
use Rattle.walks.proofs.ByName.{run_by}
use Rattle.walks.proofs.by_name.run.Goals as goal

pub returns-in-Paef : goal.returns-in-Paef
returns-in-Paef c =
    let a = c.args in
    run_by c.in-Paef.is c.new-under.ensures a.start a.run.now a.room.now _ _ c.run.ensures.opened

pub returns-in-Saef : goal.returns-in-Saef
returns-in-Saef c =
    let a = c.args in
    run_by c.in-Saef.is c.new-under.ensures a.start a.run.now a.room.now _ _ c.run-in-Saef.ensures.opened

pub returns-in-Umbreon : goal.returns-in-Umbreon
returns-in-Umbreon c =
    let a = c.args in
    run_by c.in-Umbreon.is c.new-under.ensures a.start a.run.now a.room.now _ _ c.run-in-Umbreon.ensures.opened

pub returns-in-Jolteon : goal.returns-in-Jolteon
returns-in-Jolteon c =
    let a = c.args in
    run_by c.in-Jolteon.is c.new-under.ensures a.start a.run.now a.room.now _ _ c.run-in-Jolteon.ensures.opened
