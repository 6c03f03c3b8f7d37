-- `walks::headers::head` meets its contract: a walk, or nothing for an empty header before a body. Assumes nothing.
use native.Mathlib.Omega.{arith}
use Rattle.walks.proofs.Walked.{headed_start, headed_alone, headed_before}
use Rattle.walks.proofs.headers.head.Goals as goal
use Rattle.walks.proofs.headers.head.Goals.{else-not-empty-via-then-not-empty+else-header-eq0, else-not-empty-via-else-not-empty}

pub returns-then-header-eq0-clause-headed : goal.returns-then-header-eq0-clause-headed
returns-then-header-eq0-clause-headed g c =
    headed_start g.M.Mode.kind c.args.under.now c.args.empty c.args.header.now _ c.if-not-empty.true c.if-header-eq0.true c.start.ensures

pub returns-clause-headed : goal.returns-clause-headed
returns-clause-headed g c =
    let k = g.M.Mode.kind in
    let a = c.args in
    elim c.else-not-empty.branch [
      | else-not-empty-via-then-not-empty+else-header-eq0 w ↦
          headed_before k a.under.now a.empty a.header.now _ (omega (arith, w.if-header-eq0.false)) c.walk.ensures.walked
      | else-not-empty-via-else-not-empty w ↦ headed_alone k a.under.now a.empty a.header.now _ w.if-not-empty.false c.walk.ensures.walked
    ]
