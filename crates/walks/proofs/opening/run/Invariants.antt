-- `walks::opening::run` meets its contract: what has been opened, in front of what the rest opens to, is what the run opens to.
-- Assumes nothing.
use mathlib.Core.Path.{◌≡◌}
use Rattle.walks.proofs.Opened.{OpenGoing}
use Rattle.walks.proofs.opening.run.Given as goal

abbrev pub invariant-loop-at : goal.invariant-loop-at
invariant-loop-at g l = record {
  under : l.under ≡ l.fn.under;
  going : OpenGoing g.M.Mode.kind l.fn.under l.run l.initial.s l.initial.room l.last l.s l.at l.room;
}
