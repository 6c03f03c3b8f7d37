-- `cells::byte_table` meets its contract: one computed test of the table against the rule. Assumes nothing.
use Rattle.cells.specs.Cells.{Byte, sub, sub8, flips, shuffle, swap}
use Rattle.cells.proofs.Tabs.{table}
use Rattle.cells.proofs.byte_table.Goals as goal

pub returns : goal.returns
unfolding sub sub8 flips shuffle swap
returns c = record { at = table (sub Byte) 256 }
