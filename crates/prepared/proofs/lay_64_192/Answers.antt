-- `prepared::lay_64_192` meets its contract: both loops lay cells of the share and step word 2. Assumes nothing.
use native.Mathlib.Omega.{arith}
use Rattle.ciphers.specs.declared.Cipher.TheVariants.{N64T192}
use Rattle.prepared.proofs.Loops.{shares_none, shares_more, shares_next, shares_rows, stepped_none, stepped_cell, stepped_more, stepped_next}
use Rattle.prepared.proofs.lay_64_192.Goals as goal

pub loop-k-init : goal.loop-k-init
loop-k-init c = (shares_none N64T192 _ _ c.requires.1, stepped_none _ (omega arith))

pub loop-j-preserved : goal.loop-j-preserved
loop-j-preserved c =
    let h = c.loop-j-test.true in
    λ t d s w. let (a, b) = c.loop-j.invariant t d s w in
    (shares_more N64T192 _ _ _ _ (omega arith) h (stepped_cell b h) a, stepped_more b _ h c.left_nibble.ensures)

pub loop-k-preserved : goal.loop-k-preserved
loop-k-preserved c =
    let (s, w) = c.loop-k.invariant in
    let (a, b) = c.loop-j.invariant _ _ s w in
    (shares_next N64T192 _ _ _ (omega arith) a, stepped_next b (omega arith))

pub returns : goal.returns
returns c = shares_rows N64T192 _ _ c.args.n (omega arith) c.loop-k.invariant.0
