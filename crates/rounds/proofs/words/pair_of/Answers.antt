-- `rounds::words::pair_of` meets its contract: row by row. Assumes nothing.
use Rattle.rounds.specs.State.{four}
use Rattle.rounds.proofs.words.pair_of.Goals as goal

pub returns : goal.returns
returns c =
    λ i. four (c.pair_row.ensures i) (c.pair_row-2.ensures i) (c.pair_row-3.ensures i) (c.pair_row-4.ensures i)
