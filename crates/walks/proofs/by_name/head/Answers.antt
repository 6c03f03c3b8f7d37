-- `walks::by_name::head` meets its contract: by the mode's name, under the key that was set to work. Assumes nothing.
use Rattle.walks.proofs.ByName.{headed_by}
use Rattle.walks.proofs.by_name.head.Goals as goal

pub returns-in-Paef : goal.returns-in-Paef
returns-in-Paef c =
    let a = c.args in
    headed_by c.in-Paef.is c.new-under.ensures a.empty a.header.now _ c.head.ensures.headed

pub returns-in-Saef : goal.returns-in-Saef
returns-in-Saef c =
    let a = c.args in
    headed_by c.in-Saef.is c.new-under.ensures a.empty a.header.now _ c.head-in-Saef.ensures.headed

pub returns-in-Umbreon : goal.returns-in-Umbreon
returns-in-Umbreon c =
    let a = c.args in
    headed_by c.in-Umbreon.is c.new-under.ensures a.empty a.header.now _ c.head-in-Umbreon.ensures.headed

pub returns-in-Jolteon : goal.returns-in-Jolteon
returns-in-Jolteon c =
    let a = c.args in
    headed_by c.in-Jolteon.is c.new-under.ensures a.empty a.header.now _ c.head-in-Jolteon.ensures.headed
