-- `prepared::lay_128_256` meets its contract: its loop lays the share row by row. Assumes nothing.
use Rattle.prepared.proofs.Loops.{RowsLaid}
use Rattle.prepared.proofs.lay_128_256.Given as goal

abbrev pub invariant-loop-k : goal.invariant-loop-k
invariant-loop-k l = RowsLaid l.cells l.k l.share
