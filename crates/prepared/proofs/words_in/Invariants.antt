-- `prepared::words_in` meets its contract: its loop reads both words, cell by cell. Assumes nothing.
use Rattle.prepared.proofs.Loops.{Words}
use Rattle.prepared.proofs.words_in.Given as goal

abbrev pub invariant-loop-j : goal.invariant-loop-j
invariant-loop-j l = Words l.share l.j l.words
