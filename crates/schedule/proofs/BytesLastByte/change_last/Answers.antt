-- `schedule::BytesLastByte::change_last` meets its contract: after i turns the change is stepped 8i times, and the odd rows to there are corrected.
-- Assumes nothing.
use mathlib.Core.Path.{refl, ◌∙◌}
use Prim.Native.Nat.{◌*◌}
use native.Mathlib.Omega.{arith}
use Rattle.schedule.proofs.Changed.{byte_changed}
use Rattle.schedule.proofs.OddRows.{odd_none, odd_on, cell_turn}
use Rattle.schedule.proofs.BytesLastByte.change_last.Goals as goal

pub loop-i-init : goal.loop-i-init
loop-i-init c = (refl, odd_none)

pub loop-i-preserved : goal.loop-i-preserved
loop-i-preserved c =
    let (e, s) = c.loop-i.invariant in
    let (e', r) = cell_turn c.cell_on-x.ensures e in (e', odd_on (omega arith) (omega arith) s r)

pub returns : goal.returns
returns c = let l = c.loop-i in (l.invariant.1.long ∙ c.requires.1, λ t u. byte_changed {b = 8 * l.i} l.invariant.1 (omega arith))
