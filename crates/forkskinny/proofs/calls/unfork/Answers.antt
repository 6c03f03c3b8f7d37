-- `forkskinny::calls::unfork` meets its contract: one return for each case. Assumes nothing.
use Rattle.ciphers.proofs.Named.{handed_on}
use Rattle.prepared.proofs.Admitted.{made_if}
use Rattle.forkskinny.proofs.Told.{unfork_with_names, judged_admitted}
use Rattle.forkskinny.proofs.calls.unfork.Goals as goal

pub returns-in_err-from : goal.returns-in_err-from
returns-in_err-from c = rw (handed_on _ _ c.from_residual.ensures.1, unfork_with_names, ← c.in_err-from.ensures)

pub returns-in_err-want : goal.returns-in_err-want
returns-in_err-want c = rw (handed_on _ _ c.from_residual-in_err-want.ensures.1, unfork_with_names, ← c.in_ok-from.ensures, ← c.in_err-want.ensures)

pub returns-in_err-c : goal.returns-in_err-c
returns-in_err-c c = rw (handed_on _ _ c.from_residual-in_err-c.ensures.1, unfork_with_names, ← c.in_ok-from.ensures, ← c.in_ok-want.ensures, ← c.in_err-c.ensures)

pub unfork_keyed-requires : goal.unfork_keyed-requires
unfork_keyed-requires c = let key = c.args.key.now in made_if c.in_ok-c.c key (judged_admitted c.args.cipher key c.in_ok-c.ensures)

pub returns : goal.returns
returns c = rw (unfork_with_names, ← c.in_ok-from.ensures, ← c.in_ok-want.ensures, ← c.in_ok-c.ensures) c.unfork_keyed.ensures
