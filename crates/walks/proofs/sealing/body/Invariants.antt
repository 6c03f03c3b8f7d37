-- `walks::sealing::body` meets its contract: `SealGoing` holds in every turn. Assumes nothing.
use mathlib.Core.Path.{◌≡◌}
use Rattle.walks.proofs.Sealed.{SealGoing}
use Rattle.walks.proofs.sealing.body.Given as goal

abbrev pub invariant-loop-at : goal.invariant-loop-at
invariant-loop-at g l = record {
  under : l.under ≡ l.fn.under;
  going : SealGoing g.M.Mode.kind l.fn.under l.body l.initial.room l.initial.s l.last l.s l.at l.room;
}
