-- `rounds::words::words_of` meets its contract: row by row. Assumes nothing.
use Rattle.rounds.specs.State.{four}
use Rattle.rounds.proofs.words.words_of.Goals as goal

pub returns : goal.returns
returns c =
    λ i. four (c.word_of.ensures i) (c.word_of-2.ensures i) (c.word_of-3.ensures i) (c.word_of-4.ensures i)
