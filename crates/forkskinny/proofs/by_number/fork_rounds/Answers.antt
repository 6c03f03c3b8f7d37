-- `forkskinny::by_number::fork_rounds` meets its contract: a number that names no choice costs the rounds before the fork. Assumes nothing.
use mathlib.Core.Path.{◌∙◌}
use Rattle.forkskinny.proofs.Numbers.{fork_costs_nothing}
use Rattle.forkskinny.proofs.by_number.fork_rounds.Goals as goal

pub returns-in-Err : goal.returns-in-Err
returns-in-Err c = c.init_of.ensures ∙ fork_costs_nothing c.args.c c.args.want c.in-Err.ensures
