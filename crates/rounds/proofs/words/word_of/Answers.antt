-- `rounds::words::word_of` meets its contract: turned over twice, a byte is as it was. Assumes nothing.
use mathlib.Core.Path.{ap, ◌∙◌}
use Prim.Native.Nat.{ℕ}
use Rattle.cells.specs.Words.{lane}
use Rattle.rounds.specs.State.{row}
use Rattle.rounds.proofs.Rows.{bytes_row, held_row}
use borrow.Author.Rules.{rules}
use Rattle.rounds.proofs.words.word_of.Goals as goal

pub returns : goal.returns
returns c =
    let r = c.args.r in
    held_row c.from_le_bytes.result r (ap (λ (x : ℕ). row (lane x)) c.from_le_bytes.ensures ∙ bytes_row r (search rules))
