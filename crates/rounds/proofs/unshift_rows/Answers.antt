-- `rounds::unshift_rows` meets its contract: row by row. Assumes nothing.
use lib.ListN.{get_or}
use Rattle.cells.specs.Words.{lane}
use Rattle.rounds.specs.State.{four, row}
use Rattle.rounds.proofs.Rows.{turned_right_1, turned_right_2, turned_right_3}
use borrow.Author.Rules.{rules}
use Rattle.rounds.proofs.unshift_rows.Goals as goal

pub returns : goal.returns
returns c =
    let s = c.args.s in
    λ i. four (row (lane (get_or s 0 0)))
    (turned_right_1 (get_or s 1 0) _ (search rules) c.rotate_right.ensures i)
    (turned_right_2 (get_or s 2 0) _ (search rules) c.rotate_right-2.ensures i)
    (turned_right_3 (get_or s 3 0) _ (search rules) c.rotate_right-3.ensures i)
