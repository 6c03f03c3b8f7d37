-- `runs::both::NibblesSideBySide::run_both` meets its contract: the loop keeps `BothBegun`. Assumes nothing.
use mathlib.Core.Path.{◌≡◌, refl, ap, ◌∙◌}
use Prim.Native.Nat.{◌+◌, ◌-◌}
use native.Mathlib.Omega.{arith}
use Rattle.cells.specs.Words.{near, far}
use Rattle.rounds.specs.State.{sub_by}
use Rattle.rounds.specs.Words.{shown}
use Rattle.runs.proofs.Loops.{begun_none}
use Rattle.runs.proofs.Seen.{turn_both, end_both}
use Rattle.runs.proofs.both.NibblesSideBySide.run_both.Goals as goal

pub loop-i-init : goal.loop-i-init
loop-i-init c = record { first = begun_none; second = begun_none }

pub loop-i-preserved : goal.loop-i-preserved
loop-i-preserved c =
    let a = c.args in
    turn_both a.keys.now a.from (a.from + a.count) c.loop-i.i _ _ refl refl (omega arith) (omega arith) (shown c.loop-i.x) _ c.linear_with_both.ensures
    c.loop-i.invariant c.sub_rows-x-in-loop-i.ensures

pub returns : goal.returns
returns c =
    let a = c.args in
    let last : c.loop-i.i + 1 ≡ a.count = omega arith in
    end_both a.keys.now a.from (a.from + a.count) c.loop-i.i (a.from + (a.count - 1)) (a.from + a.count + (a.count - 1)) (omega (arith, last)) (omega (arith, last))
    (omega (arith, last)) (omega (arith, last)) (shown c.loop-i.x) _ c.linear_with_both-2.ensures last c.sub_rows-x.ensures c.loop-i.invariant a.near a.far.now
    (c.words_of.ensures ∙ ap (sub_by (λ b. b)) c.pair_of.ensures) (c.seen_of.ensures ∙ ap (sub_by near) c.state_of-both.ensures)
    (c.far_of.ensures ∙ ap (sub_by far) c.state_of-both.ensures)
