-- `walks::records::seal_under` meets its contract: the header, and then one block or the walk over the body. Assumes nothing.
use native.Mathlib.Omega.{arith}
use Rattle.walks.proofs.FromHeader.{seal_none, seal_some}
use Rattle.walks.proofs.records.seal_under.Goals as goal

pub returns-then-empty : goal.returns-then-empty
returns-then-empty g c =
    let a = c.args in
    seal_none g.M.Mode.kind a.under.now a.header.now _ _ c.block-n.ensures a.body.now _ _ c.head-s.ensures.headed c.if-empty.true
    (omega (arith, c.head-s.type_inv)) c.store.ensures

pub returns : goal.returns
returns g c =
    let a = c.args in
    seal_some g.M.Mode.kind a.under.now a.header.now _ _ c.block-n.ensures a.body.now _ _ c.head-s.ensures.headed c.if-empty.false
    (rw c.head-s.ensures.same at c.body.ensures.sealed)
