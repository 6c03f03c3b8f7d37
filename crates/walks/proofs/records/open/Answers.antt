-- `walks::records::open` meets its contract: by the mode's name. Assumes nothing.
use Rattle.prepared.specs.Prepared.{key_in}
use Rattle.states.specs.declared.Kind.TheVariants.{Paef, Saef, Umbreon, Jolteon}
use Rattle.walks.proofs.ByName.{opened_by}
use Rattle.walks.proofs.records.open.Goals as goal

pub returns-in-Paef : goal.returns-in-Paef
returns-in-Paef c =
    let a = c.args in
    opened_by a.c (key_in a.c a.share.now) a.nonce.now c.new-under.ensures a.header.now a.k Paef c.in-Paef.is a.run.now a.room.now _ _
    c.open_under.ensures

pub returns-in-Saef : goal.returns-in-Saef
returns-in-Saef c =
    let a = c.args in
    opened_by a.c (key_in a.c a.share.now) a.nonce.now c.new-under.ensures a.header.now a.k Saef c.in-Saef.is a.run.now a.room.now _ _
    c.open_under-in-Saef.ensures

pub returns-in-Umbreon : goal.returns-in-Umbreon
returns-in-Umbreon c =
    let a = c.args in
    opened_by a.c (key_in a.c a.share.now) a.nonce.now c.new-under.ensures a.header.now a.k Umbreon c.in-Umbreon.is a.run.now a.room.now _ _
    c.open_under-in-Umbreon.ensures

pub returns-in-Jolteon : goal.returns-in-Jolteon
returns-in-Jolteon c =
    let a = c.args in
    opened_by a.c (key_in a.c a.share.now) a.nonce.now c.new-under.ensures a.header.now a.k Jolteon c.in-Jolteon.is a.run.now a.room.now _ _
    c.open_under-in-Jolteon.ensures
