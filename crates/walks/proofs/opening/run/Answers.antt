-- `walks::opening::run` meets its contract: what has been opened, in front of what the rest opens to, is what the run opens to.
-- Assumes nothing.
use mathlib.Core.Path.{◌≡◌, refl, ◌∙◌}
use Prim.Native.Nat.{◌+◌, ◌<◌}
use native.Mathlib.Omega.{arith}
use lib.ListN.{length}
use Rattle.walks.proofs.Opened.{OpenGoing, opening_none, opening_more, opening_stop, opening_end}
use Rattle.walks.proofs.opening.run.Goals as goal
use Rattle.walks.proofs.opening.run.Goals.{else-loop-at-test, then-loop-at-test+else-n-last}

pub loop-at-init : goal.loop-at-init
loop-at-init g c =
    let a = c.args in
    record {
      under = refl;
      going =
          opening_none g.M.Mode.kind a.under.now a.run.now a.start a.room.now _ _ c.block-n.ensures c.last_block-last.ensures.place
          c.requires.begins;
    }

pub loop-at-preserved : goal.loop-at-preserved
loop-at-preserved g c =
    let a = c.args in
    let e = c.loop-at.invariant in
    record {
      under = c.turn-s.ensures.same ∙ e.under;
      going =
          opening_more g.M.Mode.kind a.under.now a.run.now a.start a.room.now _ _ c.block-n.ensures c.last_block-last.ensures.place
          (omega arith) c.requires.openable _ _ _ e.going c.loop-at-test.true (rw e.under at c.turn-s.ensures.turned);
    }

pub returns-clause-opened : goal.returns-clause-opened
returns-clause-opened g c =
    let a = c.args in
    let l = c.loop-at-test in
    let e = c.loop-at.invariant in
    let k = g.M.Mode.kind in
    let u = a.under.now in
    let last = c.last_block-last.result in
    let N = c.block-n.ensures in
    let place = c.last_block-last.ensures.place in
    let more : last + c.block-n.result < length a.run.now = omega arith in
    let stop : (l.under ≡ u) × OpenGoing k u a.run.now a.start a.room.now last l.s last l.room
    = elim l.branch [
      | else-loop-at-test w ↦
          rw (w.under-is, w.room-is, w.s-is)
          (e.under, opening_stop k u a.run.now a.start a.room.now last _ N place more c.requires.openable _ e.going w.loop-at-test.false)
      | then-loop-at-test+else-n-last w ↦
          rw (w.under-is, w.room-is, w.s-is) (
            w.turn-s.ensures.same ∙ e.under,
            opening_stop k u a.run.now a.start a.room.now last _ N place more c.requires.openable _
                (opening_more k u a.run.now a.start a.room.now last _ N place more c.requires.openable _ _ _ e.going w.loop-at-test.true
                (rw e.under at w.turn-s.ensures.turned))
                (omega arith),
          )
    ] in
    opening_end k u a.run.now a.start a.room.now last _ N place more c.requires.openable _ (omega arith) stop.1 _ _ (rw stop.0 at c.end.ensures.ended)
