-- `forkskinny::rounds_for` meets its contract: by what is wanted. Assumes nothing.
use native.Mathlib.Omega.{arith}
use Rattle.forkskinny.specs.Calls.{wants}
use Rattle.forkskinny.proofs.rounds_for.Goals.{in-First, in-Second, in-Both}
use Rattle.forkskinny.proofs.rounds_for.Goals as goal

pub returns : goal.returns
unfolding wants
returns c =
    elim c.match-want.branch [
      | in-First w ↦ rw (w.in-First.is, w.rounds-is) (omega arith)
      | in-Second w ↦ rw (w.in-Second.is, w.rounds-is) (omega arith)
      | in-Both w ↦ rw (w.in-Both.is, w.rounds-is) (omega arith)
    ]
