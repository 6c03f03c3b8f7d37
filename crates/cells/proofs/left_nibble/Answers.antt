-- `cells::left_nibble` meets its contract: no sum wraps, and the result is the rule's. Assumes nothing.
use Rattle.cells.proofs.Steps.{left_nibble}
use borrow.Author.Rules.{rules}
use Rattle.cells.proofs.left_nibble.Goals as goal

pub returns : goal.returns
returns c = left_nibble c.args.x (search rules)
