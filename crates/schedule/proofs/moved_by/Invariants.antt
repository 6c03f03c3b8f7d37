-- `schedule::moved_by` meets its contract: the loop has moved i times. Assumes nothing.
use mathlib.Core.Path.{◌≡◌}
use Rattle.schedule.specs.Sixteen.{moved}
use Rattle.schedule.proofs.moved_by.Given as goal

abbrev pub invariant-loop-i : goal.invariant-loop-i
invariant-loop-i l = l.r ≡ moved l.i l.initial.r
