-- `cells::byte_untable` meets its contract: one computed test of the table against the rule. Assumes nothing.
use Rattle.cells.specs.Cells.{Byte, unsub, unsub8, flips, unshuffle, swap}
use Rattle.cells.proofs.Tabs.{table}
use Rattle.cells.proofs.byte_untable.Goals as goal

pub returns : goal.returns
unfolding unsub unsub8 flips unshuffle swap
returns c = record { at = table (unsub Byte) 256 }
