-- `cells::words::unsub_nibbles` meets its contract: the code is this formula, and one computed test of it over all bytes. Assumes nothing.
use Rattle.cells.specs.Cells.{unsub}
use Rattle.cells.specs.Words.{unsub_pair}
use Rattle.cells.proofs.Rules.{Rule, whole, right, left, ◌and◌, ◌xor◌, ◌or◌, ◌then◌, each}
use Rattle.cells.proofs.words.unsub_nibbles.Goals as goal

abbrev rule : Rule
rule =
    left 1 0xee or right 3 0x11
    then whole xor (left 1 0x22 and right 2 0x22)
    then whole xor (left 1 0x44 and left 2 0x44)
    then whole xor (left 1 0x88 and left 2 0x88)
    then whole xor (right 2 0x11 and right 3 0x11)

pub returns : goal.returns
unfolding unsub_pair unsub
returns c = each unsub_pair rule tt tt c.args.y
