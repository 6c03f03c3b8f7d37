-- `runs::both::BytesSideBySide::run_both` meets its contract: the loop keeps `Begun` of both states. Assumes nothing.
use mathlib.Core.Path.{◌≡◌, refl}
use Prim.Native.Nat.{◌+◌, ◌-◌}
use native.Mathlib.Omega.{arith}
use Rattle.rounds.specs.Words.{shown}
use Rattle.runs.proofs.Loops.{begun_none}
use Rattle.runs.proofs.Seen.{bytes, turn_forward, end_forward}
use Rattle.runs.proofs.both.BytesSideBySide.run_both.Goals as goal

pub loop-i-init : goal.loop-i-init
loop-i-init c = (begun_none, begun_none)

pub loop-i-preserved : goal.loop-i-preserved
loop-i-preserved c =
    let a = c.args in (
      turn_forward bytes a.keys.now a.from c.loop-i.i _ refl (omega arith) (shown c.loop-i.x) _ c.linear_with.ensures c.loop-i.invariant.0
          c.sub_rows-x-in-loop-i.ensures,
      turn_forward bytes a.keys.now (a.from + a.count) c.loop-i.i _ refl (omega arith) (shown c.loop-i.y) _ c.linear_with-in-loop-i.ensures
          c.loop-i.invariant.1 c.sub_rows-y-in-loop-i.ensures,
    )

pub returns : goal.returns
returns c =
    let a = c.args in
    let last : c.loop-i.i + 1 ≡ a.count = omega arith in (
      end_forward bytes a.keys.now a.from c.loop-i.i (a.from + (a.count - 1)) (omega (arith, last)) (omega (arith, last)) (shown c.loop-i.x) _
          c.linear_with-3.ensures last c.sub_rows-x.ensures c.loop-i.invariant.0 a.near c.words_of.ensures c.state_of-2.ensures,
      end_forward bytes a.keys.now (a.from + a.count) c.loop-i.i (a.from + a.count + (a.count - 1)) (omega (arith, last)) (omega (arith, last)) (shown c.loop-i.y) _
          c.linear_with-2.ensures last c.sub_rows-y.ensures c.loop-i.invariant.1 a.far.now c.words_of-2.ensures c.state_of.ensures,
    )
