-- `forkskinny::calls::fork` meets its contract: one return for each case. Assumes nothing.
use Rattle.ciphers.proofs.Named.{handed_on}
use Rattle.prepared.proofs.Admitted.{made_if}
use Rattle.forkskinny.proofs.Told.{fork_with_names, judged_admitted}
use Rattle.forkskinny.proofs.calls.fork.Goals as goal

pub returns-in_err-want : goal.returns-in_err-want
returns-in_err-want c = rw (handed_on _ _ c.from_residual.ensures.1, fork_with_names, ← c.in_err-want.ensures)

pub returns-in_err-c : goal.returns-in_err-c
returns-in_err-c c = rw (handed_on _ _ c.from_residual-in_err-c.ensures.1, fork_with_names, ← c.in_ok-want.ensures, ← c.in_err-c.ensures)

pub fork_keyed-requires : goal.fork_keyed-requires
fork_keyed-requires c = let key = c.args.key.now in made_if c.in_ok-c.c key (judged_admitted c.args.cipher key c.in_ok-c.ensures)

pub returns : goal.returns
returns c = rw (fork_with_names, ← c.in_ok-want.ensures, ← c.in_ok-c.ensures) c.fork_keyed.ensures
