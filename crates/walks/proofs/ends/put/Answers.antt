-- `walks::ends::put` meets its contract: `both_put` of what the stores ensure. Assumes nothing.
use native.Mathlib.Omega.{arith}
use lib.ListN.{take, length-take, length-drop}
use lib.Seq.{length-take-le}
use Rattle.walks.proofs.Joined.{both_put}
use Rattle.walks.proofs.ends.put.Goals as goal

pub store-requires : goal.store-requires
store-requires c = (omega arith, simp (length-take, length-drop) (omega arith))

pub store-requires-2 : goal.store-requires-2
store-requires-2 c = (omega arith, simp (length-take, length-drop) (omega arith))

pub returns : goal.returns
returns c =
    let a = c.args in
    both_put a.n a.l (take a.n a.block) (take a.l a.second) a.rest.now _ _
    (length-take-le a.n a.block (omega (arith, c.well_formed, c.requires)))
    (length-take-le a.l a.second (omega (arith, c.well_formed, c.requires))) c.requires.2 a.ahead
    c.begin-at.ensures.0 c.begin-from.ensures.0 c.store.ensures c.store-2.ensures
