-- `walks::headers::walk` meets its contract: `Walked` holds in every turn. Assumes nothing.
use mathlib.Core.Path.{◌≡◌}
use lib.ListN.{length}
use Rattle.walks.proofs.Walked.{Walked}
use Rattle.walks.proofs.headers.walk.Given as goal

abbrev pub invariant-loop-rest : goal.invariant-loop-rest
invariant-loop-rest g l = record { under : l.under ≡ l.fn.under; walked : Walked g.M.Mode.kind l.fn.under l.empty l.header l.s l.rest }

abbrev pub decreases-loop-rest : goal.decreases-loop-rest
decreases-loop-rest g l = length l.rest
