-- `cells::nibble_untable` meets its contract: one computed test of the table against the rule. Assumes nothing.
use Rattle.cells.specs.Cells.{Nibble, unsub}
use Rattle.cells.proofs.Tabs.{table}
use Rattle.cells.proofs.nibble_untable.Goals as goal

pub returns : goal.returns
unfolding unsub
returns c = record { at = table (unsub Nibble) 256 }
