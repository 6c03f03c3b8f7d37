-- `forkskinny::Keyed::unfork_by_number` meets its contract: a number that names no choice wants nothing, and every number but 0 is half 1.
-- Assumes nothing.
use Rattle.forkskinny.proofs.Numbers.{want_is, unfork_nothing, one_half}
use Rattle.forkskinny.proofs.keyed.Keyed.unfork_by_number.Goals as goal

pub returns-in-Ok-clause-unforked : goal.returns-in-Ok-clause-unforked
returns-in-Ok-clause-unforked c =
    let a = c.args in
    rw (← one_half a.self.now.cipher a.self.now.key a.tweak a.block a.from a.want, ← want_is a.want c.in-Ok.ensures, ← c.half_for.ensures) c.unfork.ensures.unforked

pub returns-in-Err-clause-unforked : goal.returns-in-Err-clause-unforked
returns-in-Err-clause-unforked c =
    let a = c.args in
    rw (unfork_nothing a.self.now.cipher a.self.now.key a.tweak a.block a.from a.want c.in-Err.ensures, ← c.cipher.ensures) c.unfork_none.ensures
