-- `cells::nibble_table` meets its contract: one computed test of the table against the rule. Assumes nothing.
use Rattle.cells.specs.Cells.{Nibble, sub}
use Rattle.cells.proofs.Tabs.{table}
use Rattle.cells.proofs.nibble_table.Goals as goal

pub returns : goal.returns
unfolding sub
returns c = record { at = table (sub Nibble) 256 }
