-- `walks::records::open_under` meets its contract: the header, and then one block or the walk over the run. Assumes nothing.
use mathlib.Core.Path.{refl}
use Rattle.walks.proofs.FromHeader.{open_none, open_some}
use Rattle.walks.proofs.records.open_under.Goals as goal

pub returns-then-alone : goal.returns-then-alone
returns-then-alone g c =
    let a = c.args in
    open_none g.M.Mode.kind a.under.now a.header.now _ _ c.block-n.ensures a.run.now _ _ _ c.head-s.ensures.headed c.if-alone.true
    c.equal.ensures refl

pub returns : goal.returns
returns g c =
    let a = c.args in
    open_some g.M.Mode.kind a.under.now a.header.now _ _ c.block-n.ensures a.run.now _ _ _ c.head-s.ensures.headed c.if-alone.false
    (rw c.head-s.ensures.same at c.run.ensures.opened)
