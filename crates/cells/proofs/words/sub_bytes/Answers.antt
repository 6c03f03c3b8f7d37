-- `cells::words::sub_bytes` meets its contract: the code is this formula, and one computed test of it over all bytes. Assumes nothing.
use Rattle.cells.specs.Cells.{Byte, sub, sub8, flips, shuffle, swap}
use Rattle.cells.proofs.Rules.{Rule, whole, bits, right, left, lefts, ◌and◌, ◌xor◌, ◌or◌, ◌then◌, each}
use Rattle.cells.proofs.words.sub_bytes.Goals as goal

abbrev rule : Rule
rule =
    whole xor (right 3 0x11 and right 2 0x11)
    then whole xor lefts 5 4 0x40 xor lefts 5 1 0x20
    then whole xor (left 1 0x82 and (right 2 0x02 or left 2 0x80))
    then (left 2 0xc8 or left 5 0x20 or left 1 0x10 or right 4 0x04 or right 6 0x02 or right 2 0x01)
    xor (right 1 0x11 and (bits 0x10 or right 7 0x01))

pub returns : goal.returns
unfolding sub sub8 flips shuffle swap
returns c = each (sub Byte) rule tt tt c.args.y
