-- `forkskinny::calls::fork_by_key` meets its contract: one return for each case. Assumes nothing.
use Rattle.ciphers.proofs.Named.{handed_on}
use Rattle.forkskinny.proofs.Told.{fork_names}
use Rattle.forkskinny.proofs.calls.fork_by_key.Goals as goal

pub returns-in_err-want : goal.returns-in_err-want
returns-in_err-want c = rw (handed_on _ _ c.from_residual.ensures.1, fork_names, ← c.in_err-want.ensures)

pub returns-in_err-c : goal.returns-in_err-c
returns-in_err-c c = rw (handed_on _ _ c.from_residual-in_err-c.ensures.1, fork_names, ← c.in_ok-want.ensures, ← c.in_err-c.ensures)

pub returns : goal.returns
returns c =
    rw (fork_names, ← c.in_ok-want.ensures, ← c.in_ok-c.ensures)
    (rw (← c.share_made-share.ensures.key) c.fork_keyed.ensures)
