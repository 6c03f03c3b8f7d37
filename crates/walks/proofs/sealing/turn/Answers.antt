-- `walks::sealing::turn` meets its contract: `turned` of what the callees ensure. Assumes nothing.
use Rattle.walks.proofs.Turned.{turned}
use Rattle.walks.proofs.sealing.turn.Goals as goal

pub returns-clause-turned : goal.returns-clause-turned
returns-clause-turned g c =
    let a = c.args in
    turned a.under.now.cipher a.part.now a.rest.now c.block-n.ensures c.load.ensures c.seal_block-sealed.ensures.stepped c.store.ensures
    c.requires.whole
