-- `walks::records::seal` meets its contract: by the mode's name. Assumes nothing.
use Rattle.prepared.specs.Prepared.{key_in}
use Rattle.states.specs.declared.Kind.TheVariants.{Paef, Saef, Umbreon, Jolteon}
use Rattle.walks.proofs.ByName.{sealed_by}
use Rattle.walks.proofs.records.seal.Goals as goal

pub returns-in-Paef : goal.returns-in-Paef
returns-in-Paef c =
    let a = c.args in
    sealed_by a.c (key_in a.c a.share.now) a.nonce.now c.new-under.ensures a.header.now a.k Paef c.in-Paef.is a.body.now a.room.now _
    c.seal_under.ensures

pub returns-in-Saef : goal.returns-in-Saef
returns-in-Saef c =
    let a = c.args in
    sealed_by a.c (key_in a.c a.share.now) a.nonce.now c.new-under.ensures a.header.now a.k Saef c.in-Saef.is a.body.now a.room.now _
    c.seal_under-in-Saef.ensures

pub returns-in-Umbreon : goal.returns-in-Umbreon
returns-in-Umbreon c =
    let a = c.args in
    sealed_by a.c (key_in a.c a.share.now) a.nonce.now c.new-under.ensures a.header.now a.k Umbreon c.in-Umbreon.is a.body.now a.room.now _
    c.seal_under-in-Umbreon.ensures

pub returns-in-Jolteon : goal.returns-in-Jolteon
returns-in-Jolteon c =
    let a = c.args in
    sealed_by a.c (key_in a.c a.share.now) a.nonce.now c.new-under.ensures a.header.now a.k Jolteon c.in-Jolteon.is a.body.now a.room.now _
    c.seal_under-in-Jolteon.ensures
