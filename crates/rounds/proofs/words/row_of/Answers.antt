-- `rounds::words::row_of` meets its contract: the bytes of the word turned over. Assumes nothing.
use mathlib.Core.Path.{◌∙◌}
use Rattle.rounds.proofs.Rows.{bytes_over}
use Rattle.rounds.proofs.words.row_of.Goals as goal

pub returns : goal.returns
returns c = c.to_le_bytes.ensures ∙ bytes_over c.args.x
