-- `jobs::all` ends: each turn leaves fewer bytes. Assumes nothing.
use lib.ListN.{length}
use Rattle.jobs.proofs.all.Given as goal

abbrev pub decreases-loop-job : goal.decreases-loop-job
decreases-loop-job l = length l.rest
