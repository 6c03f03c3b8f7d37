-- `cells::words::sub_nibbles` meets its contract: the code is this formula, and one computed test of it over all bytes. Assumes nothing.
use Rattle.cells.specs.Cells.{sub}
use Rattle.cells.specs.Words.{sub_pair}
use Rattle.cells.proofs.Rules.{Rule, whole, right, left, ◌and◌, ◌xor◌, ◌or◌, ◌then◌, each}
use Rattle.cells.proofs.words.sub_nibbles.Goals as goal

abbrev rule : Rule
rule =
    whole xor (right 2 0x11 and right 3 0x11)
    then whole xor (left 1 0xcc and left 2 0xcc)
    then whole xor (left 1 0x22 and right 2 0x22)
    then right 1 0x77 or left 3 0x88

pub returns : goal.returns
unfolding sub_pair sub
returns c = each sub_pair rule tt tt c.args.y
