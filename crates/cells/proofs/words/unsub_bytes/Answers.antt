-- `cells::words::unsub_bytes` meets its contract: the code is this formula, and one computed test of it over all bytes. Assumes nothing.
use Rattle.cells.specs.Cells.{Byte, unsub, unsub8, flips, unshuffle, swap}
use Rattle.cells.proofs.Rules.{Rule, whole, right, left, lefts, ◌and◌, ◌xor◌, ◌or◌, ◌then◌, each}
use Rattle.cells.proofs.words.unsub_bytes.Goals as goal

abbrev rule : Rule
rule =
    whole xor (right 3 0x11 and (right 2 0x10 or right 1 0x01))
    then right 2 0x32 or right 5 0x01 or right 1 0x08 or left 4 0x40 or left 6 0x80 or left 2 0x04
    then whole xor (left 1 0x82 and (right 2 0x02 or left 2 0x80))
    then whole xor lefts 5 4 0x40 xor lefts 5 1 0x20
    then whole xor (right 3 0x11 and right 2 0x11)

pub returns : goal.returns
unfolding unsub unsub8 flips unshuffle swap
returns c = each (unsub Byte) rule tt tt c.args.y
