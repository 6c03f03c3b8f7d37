-- `walks::headers::walk` meets its contract: `Walked` holds in every turn. Assumes nothing.
use mathlib.Core.Path.{refl, ◌∙◌}
use Rattle.walks.proofs.Walked.{walked_none, walked_more, walked_end}
use Rattle.walks.proofs.headers.walk.Goals as goal

pub loop-rest-init : goal.loop-rest-init
loop-rest-init g c = record { under = refl; walked = walked_none _ _ _ _ _ c.start-s.ensures }

pub loop-rest-preserved : goal.loop-rest-preserved
loop-rest-preserved g c =
    let e = c.loop-rest.invariant.under in
    record {
      under = c.turn-s.ensures.same ∙ e;
      walked =
          walked_more _ _ _ _ c.loop-rest.invariant.walked _ c.block-n.ensures _ c.loop-rest-test.true
          (rw e at c.turn-s.ensures.turned);
    }

pub returns-clause-walked : goal.returns-clause-walked
returns-clause-walked g c =
    walked_end _ _ _ _ c.loop-rest.invariant.walked _ c.block-n.ensures _ c.loop-rest-test.false
    (rw c.loop-rest.invariant.under at c.end.ensures.ended)
