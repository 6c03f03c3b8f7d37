-- `schedule::NibblesLastByte::change_last` meets its contract: after i turns the change is stepped 8i times, and the odd rows to there are corrected.
-- Assumes nothing.
use mathlib.Core.Path.{refl, ◌∙◌}
use Prim.Native.Nat.{◌*◌}
use native.Mathlib.Omega.{arith}
use Rattle.schedule.proofs.Changed.{keys_changed}
use Rattle.schedule.proofs.OddRows.{odd_none, odd_on, odd_both, cell_turn}
use Rattle.schedule.proofs.NibblesLastByte.change_last.Goals as goal

pub loop-i-init : goal.loop-i-init
loop-i-init c = (refl, refl, odd_none)

pub loop-i-preserved : goal.loop-i-preserved
loop-i-preserved c =
    let (e, g, s) = c.loop-i.invariant in
    let (e', r) = cell_turn c.cell_on-x.ensures e in
    let (g', q) = cell_turn c.cell_on-y.ensures g in
    (e', g', odd_on (omega arith) (omega arith) s (odd_both r q))

pub returns : goal.returns
returns c = let l = c.loop-i in (l.invariant.2.long ∙ c.requires.1, λ t u. keys_changed {b = 8 * l.i} l.invariant.2 (omega arith))
