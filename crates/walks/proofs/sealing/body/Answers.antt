-- `walks::sealing::body` meets its contract: `SealGoing` holds in every turn. Assumes nothing.
use mathlib.Core.Path.{◌≡◌, refl, ◌∙◌}
use native.Mathlib.Omega.{arith}
use Rattle.walks.proofs.Sealed.{SealGoing, sealing_none, sealing_more, sealing_stop, sealing_end}
use Rattle.walks.proofs.sealing.body.Goals as goal
use Rattle.walks.proofs.sealing.body.Goals.{else-loop-at-test, then-loop-at-test+else-n-last}

pub loop-at-init : goal.loop-at-init
loop-at-init g c =
    let a = c.args in
    record {
      under = refl;
      going =
          sealing_none g.M.Mode.kind a.under.now a.body.now a.room.now a.start _ _ c.block-n.ensures c.last_block-last.ensures.place
          c.requires.begins;
    }

pub loop-at-preserved : goal.loop-at-preserved
loop-at-preserved g c =
    let a = c.args in
    let l = c.loop-at.invariant in
    record {
      under = c.turn-s.ensures.same ∙ l.under;
      going =
          sealing_more g.M.Mode.kind a.under.now a.body.now a.room.now a.start _ _ c.block-n.ensures c.last_block-last.ensures.place
          (omega arith) c.requires.fits l.going _ _ c.loop-at-test.true (rw l.under at c.turn-s.ensures.turned);
    }

pub returns-clause-sealed : goal.returns-clause-sealed
returns-clause-sealed g c =
    let a = c.args in
    let l = c.loop-at-test in
    let e = c.loop-at.invariant in
    let k = g.M.Mode.kind in
    let u = a.under.now in
    let last = c.last_block-last.result in
    let stop : (l.under ≡ u) × SealGoing k u a.body.now a.room.now a.start last l.s last l.room
    = elim l.branch [
      | else-loop-at-test w ↦
          rw (w.under-is, w.room-is, w.s-is)
          (e.under, sealing_stop k u a.body.now a.room.now a.start last _ c.block-n.ensures c.last_block-last.ensures.place e.going w.loop-at-test.false)
      | then-loop-at-test+else-n-last w ↦
          rw (w.under-is, w.room-is, w.s-is) (
            w.turn-s.ensures.same ∙ e.under,
            sealing_stop k u a.body.now a.room.now a.start last _ c.block-n.ensures c.last_block-last.ensures.place
                (sealing_more k u a.body.now a.room.now a.start last _ c.block-n.ensures c.last_block-last.ensures.place
                (omega arith) c.requires.fits e.going _ _ w.loop-at-test.true (rw e.under at w.turn-s.ensures.turned))
                (omega arith),
          )
    ] in
    sealing_end k u a.body.now a.room.now a.start last _ c.block-n.ensures c.last_block-last.ensures.place _ (omega arith)
    c.last_block-last.ensures.short c.requires.fits stop.1 (rw stop.0 at c.end.ensures.ended)
