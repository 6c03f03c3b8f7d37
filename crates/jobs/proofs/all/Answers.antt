-- `jobs::all` ends: each turn leaves fewer bytes. Assumes nothing.
use mathlib.Core.Path.{ap}
use native.Mathlib.Omega.{arith}
use lib.ListN.{length}
use Rattle.job.proofs.Writing.{behind_length}
use Rattle.jobs.proofs.all.Goals as goal

pub loop-job-smaller : goal.loop-job-smaller
loop-job-smaller c =
    let split = c.in-Some.ensures in
    omega (arith, behind_length c.loop-job.rest.now split.whole, ap length split.rest_is)
