-- `cells::right_nibble` meets its contract: no sum wraps, and the result is the rule's. Assumes nothing.
use Rattle.cells.proofs.Steps.{right_nibble}
use borrow.Author.Rules.{rules}
use Rattle.cells.proofs.right_nibble.Goals as goal

pub returns : goal.returns
returns c = right_nibble c.args.x (search rules)
