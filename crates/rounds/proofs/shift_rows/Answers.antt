-- `rounds::shift_rows` meets its contract: row by row. Assumes nothing.
use lib.ListN.{get_or}
use Rattle.cells.specs.Words.{lane}
use Rattle.rounds.specs.State.{four, row}
use Rattle.rounds.proofs.Rows.{turned_left_1, turned_left_2, turned_left_3}
use borrow.Author.Rules.{rules}
use Rattle.rounds.proofs.shift_rows.Goals as goal

pub returns : goal.returns
returns c =
    let s = c.args.s in
    λ i. four (row (lane (get_or s 0 0)))
    (turned_left_1 (get_or s 1 0) _ (search rules) c.rotate_left.ensures i)
    (turned_left_2 (get_or s 2 0) _ (search rules) c.rotate_left-2.ensures i)
    (turned_left_3 (get_or s 3 0) _ (search rules) c.rotate_left-3.ensures i)
