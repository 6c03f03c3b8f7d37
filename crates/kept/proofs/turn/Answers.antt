-- `kept::turn` meets its contract: one with another last byte, the same tweak again, or laid anew. Assumes nothing.
use native.Mathlib.Omega.{arith}
use Rattle.ciphers.proofs.Laws.{block_some, block_most}
use Rattle.kept.proofs.Changed.{still, corrected}
use Rattle.kept.proofs.turn.Goals as goal

pub same_but_last-requires : goal.same_but_last-requires
same_but_last-requires c =
    let k = c.args.c in
    (omega (arith, c.block_of-n.ensures, block_some k), omega (arith, c.block_of-n.ensures, block_most k))

pub overflow_sub-d : goal.overflow_sub-d
overflow_sub-d c = omega (arith, c.block_of-n.ensures, block_some c.args.c)

pub bounds-old-n : goal.bounds-old-n
bounds-old-n c = omega (arith, c.block_of-n.ensures, block_most c.args.c)

pub bounds-new-n : goal.bounds-new-n
bounds-new-n c = omega (arith, c.block_of-n.ensures, block_most c.args.c)

pub returns-then-d-ne0 : goal.returns-then-d-ne0
returns-then-d-ne0 c =
    corrected c.args.c c.args.tweak.now c.block_of-n.result c.requires.3 c.if-m-rounds.true c.block_of-n.ensures (omega arith)
    (c.same_but_last.ensures c.if-same_but_last.true)
    (record { at = c.fits-tweak }) c.change_last.ensures.0 c.change_last.ensures.1

pub returns-else-d-ne0 : goal.returns-else-d-ne0
returns-else-d-ne0 c =
    still c.args.c c.args.tweak.now c.block_of-n.result c.requires.3 c.if-m-rounds.true c.block_of-n.ensures (omega arith)
    (c.same_but_last.ensures c.if-same_but_last.true) c.if-d-ne0.false
