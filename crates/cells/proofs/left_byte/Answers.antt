-- `cells::left_byte` meets its contract: no sum wraps, and the result is the rule's. Assumes nothing.
use Rattle.cells.proofs.Steps.{left_byte}
use borrow.Author.Rules.{rules}
use Rattle.cells.proofs.left_byte.Goals as goal

pub returns : goal.returns
returns c = left_byte c.args.x (search rules)
