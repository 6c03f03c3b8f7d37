-- `walks::headers::turn` meets its contract: one step on the block that was loaded. Assumes nothing.
use mathlib.Core.Path.{ap}
use Rattle.ciphers.specs.Ciphers.{block_of}
use Rattle.states.specs.Modes.{state_of}
use Rattle.states.specs.Under.{mode_at}
use Rattle.walks.proofs.Answered.{reached_as}
use Rattle.walks.proofs.Places.{loaded_full}
use Rattle.walks.proofs.headers.turn.Goals as goal

pub returns-clause-turned : goal.returns-clause-turned
returns-clause-turned g c =
    let a = c.args in
    let u = a.under.now in
    let k = g.M.Mode.kind in
    let n = block_of u.cipher in
    reached_as
    (ap ((mode_at k u).head (state_of k n a.s)) (loaded_full _ n _ a.part.now c.block-n.ensures c.load.ensures c.requires.whole))
    c.head.ensures.stepped
