-- `walks::by_name::body` meets its contract: by the mode's name, under the key that was set to work. Assumes nothing.
use Rattle.walks.proofs.ByName.{body_by}
use Rattle.walks.proofs.by_name.body.Goals as goal

pub returns-in-Paef : goal.returns-in-Paef
returns-in-Paef c =
    let a = c.args in
    body_by c.in-Paef.is c.new-under.ensures a.start a.body.now a.room.now _ c.body.ensures.sealed

pub returns-in-Saef : goal.returns-in-Saef
returns-in-Saef c =
    let a = c.args in
    body_by c.in-Saef.is c.new-under.ensures a.start a.body.now a.room.now _ c.body-in-Saef.ensures.sealed

pub returns-in-Umbreon : goal.returns-in-Umbreon
returns-in-Umbreon c =
    let a = c.args in
    body_by c.in-Umbreon.is c.new-under.ensures a.start a.body.now a.room.now _ c.body-in-Umbreon.ensures.sealed

pub returns-in-Jolteon : goal.returns-in-Jolteon
returns-in-Jolteon c =
    let a = c.args in
    body_by c.in-Jolteon.is c.new-under.ensures a.start a.body.now a.room.now _ c.body-in-Jolteon.ensures.sealed
