-- `runs::run_apart` meets its contract: the first loop keeps `Left` of one state and `Begun` of the other, and the second goes on with this
-- one. Assumes nothing.
use mathlib.Core.Path.{◌≡◌, refl, ap, ◌∙◌}
use Prim.Native.Nat.{◌+◌, ◌-◌}
use native.Mathlib.Omega.{arith}
use Rattle.cells.specs.Words.{seen}
use Rattle.rounds.specs.State.{sub_by}
use Rattle.rounds.specs.Words.{shown}
use Rattle.runs.proofs.Loops.{begun_none, left_all}
use Rattle.runs.proofs.Seen.{kind, turn_forward, end_forward, turn_back, end_back}
use Rattle.runs.proofs.run_apart.Goals as goal

pub loop-i-init : goal.loop-i-init
loop-i-init g c = (left_all (omega arith), begun_none)

pub loop-i-preserved : goal.loop-i-preserved
loop-i-preserved g c =
    let a = c.args in
    let k = kind g.K.Cell.width in
    let on = c.loop-i-test.true in
    let fit = c.requires.2 in (
      turn_back k {m = a.from + a.count} a.keys.now 0 (a.n - (c.loop-i.i + 1)) (a.n - 1 - c.loop-i.i) (omega (arith, on)) (omega (arith, on, fit)) (shown c.loop-i.x)
          (omega (arith, on)) c.loop-i.invariant.0 c.unlinear_with.ensures c.unsub_rows-x.ensures,
      turn_forward k a.keys.now a.from c.loop-i.i _ refl (omega (arith, on, c.requires.1)) (shown c.loop-i.y) _ c.linear_with.ensures c.loop-i.invariant.1
          c.sub_rows-y-in-loop-i.ensures,
    )

pub loop-i-2-preserved : goal.loop-i-2-preserved
loop-i-2-preserved g c =
    let a = c.args in
    λ s b. turn_forward (kind g.K.Cell.width) a.keys.now a.from c.loop-i-2.i _ refl (omega arith) (shown c.loop-i-2.y) _
    c.linear_with-in-loop-i-2.ensures (c.loop-i-2.invariant s b) c.sub_rows-y-in-loop-i-2.ensures

pub returns : goal.returns
returns g c =
    let a = c.args in
    let w = g.K.Cell.width in
    let none : a.n - c.loop-i.i ≡ 0 = omega arith in
    let all : c.loop-i.i ≡ a.n = omega arith in
    let last : c.loop-i-2.i + 1 ≡ a.count = omega arith in (
      end_back (kind w) (shown c.loop-i.x) c.requires.0 (rw none at c.loop-i.invariant.0) a.s c.words_of-x.ensures (c.seen_of-2.ensures ∙ ap (sub_by (seen w)) c.state_of-2.ensures),
      end_forward (kind w) a.keys.now a.from c.loop-i-2.i (a.from + (a.count - 1)) (omega (arith, last)) (omega (arith, last)) (shown c.loop-i-2.y) _
          c.linear_with-2.ensures last c.sub_rows-y.ensures (c.loop-i-2.invariant _ (rw all at c.loop-i.invariant.1)) a.other.now c.words_of.ensures
          (c.seen_of.ensures ∙ ap (sub_by (seen w)) c.state_of.ensures),
    )
