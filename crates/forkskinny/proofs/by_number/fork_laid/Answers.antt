-- `forkskinny::by_number::fork_laid` meets its contract: a number that names no choice wants nothing. Assumes nothing.
use mathlib.Core.Path.{sym, ◌∙◌}
use Rattle.forkskinny.proofs.Numbers.{fork_nothing}
use Rattle.forkskinny.proofs.by_number.fork_laid.Goals as goal

pub returns-in-Err : goal.returns-in-Err
returns-in-Err c =
    let a = c.args in
    λ key tweak laid. c.fork_none.ensures ∙ sym (fork_nothing a.c key tweak a.block a.want c.in-Err.ensures)
