-- `forkskinny::by_number::unfork_reach` meets its contract: a number that names no choice takes the keys of the half's own branch. Assumes nothing.
use Rattle.forkskinny.proofs.Numbers.{unfork_reaches_nothing, one_half_reach}
use Rattle.forkskinny.proofs.by_number.unfork_reach.Goals as goal

pub returns-in-Err : goal.returns-in-Err
returns-in-Err c =
    let a = c.args in
    rw (← one_half_reach a.c a.from a.want, ← unfork_reaches_nothing a.c _ a.want c.in-Err.ensures, ← c.half_for-half.ensures) c.reach_back-in-Err.ensures
