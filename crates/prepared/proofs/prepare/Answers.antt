-- `prepared::prepare` meets its contract: one return for each case. Assumes nothing.
use Rattle.ciphers.proofs.Named.{handed_on}
use Rattle.prepared.proofs.Found.{made, not_made, prepare_names}
use Rattle.prepared.proofs.prepare.Goals as goal

pub returns-in_err-c : goal.returns-in_err-c
returns-in_err-c c = rw (handed_on _ _ c.from_residual.ensures.1, prepare_names, ← c.in_err-c.ensures)

pub returns-then-key-ne16 : goal.returns-then-key-ne16
returns-then-key-ne16 c = rw (prepare_names, ← c.in_ok-c.ensures) (not_made c.in_ok-c.c c.args.key.now c.if-key-ne16.true)

pub returns : goal.returns
returns c =
    rw (prepare_names, ← c.in_ok-c.ensures)
    (made c.in_ok-c.c c.args.key.now c.if-key-ne16.false c.front.ensures c.share_of-share.ensures c.from.ensures)
