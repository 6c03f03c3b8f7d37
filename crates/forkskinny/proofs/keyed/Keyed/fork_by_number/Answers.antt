-- `forkskinny::Keyed::fork_by_number` meets its contract: a number that names no choice wants nothing. Assumes nothing.
use Rattle.forkskinny.proofs.Numbers.{fork_nothing}
use Rattle.forkskinny.proofs.keyed.Keyed.fork_by_number.Goals as goal

pub returns-in-Err-clause-forked : goal.returns-in-Err-clause-forked
returns-in-Err-clause-forked c =
    let a = c.args in
    rw (fork_nothing a.self.now.cipher a.self.now.key a.tweak a.block a.want c.in-Err.ensures, ← c.cipher.ensures) c.fork_none.ensures
