-- `forkskinny::by_number::fork_reach` meets its contract: a number that names no choice takes the near branch's keys at most. Assumes nothing.
use mathlib.Core.Path.{◌∙◌}
use mathlib.Core.Bool.{false}
use native.Mathlib.Omega.{arith}
use Rattle.ciphers.proofs.Laws.{init_some}
use Rattle.forkskinny.proofs.Places.{reach_fit, reach_init}
use Rattle.forkskinny.proofs.Numbers.{fork_reaches_nothing}
use Rattle.forkskinny.proofs.by_number.fork_reach.Goals as goal

pub returns-in-Err : goal.returns-in-Err
returns-in-Err c =
    let a = c.args in (
      c.reach_of.ensures ∙ fork_reaches_nothing a.c a.want c.in-Err.ensures,
      omega (arith, init_some a.c, reach_init a.c false, c.reach_of.ensures),
      omega (arith, reach_fit a.c false, c.reach_of.ensures),
    )
