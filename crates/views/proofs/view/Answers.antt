-- `views::view` meets its contract: by the tests. Assumes nothing.
use native.Mathlib.Omega.{arith}
use borrow.Author.Tests.{eq-eqb, ne_eqb, lt-ltb, le-ltb}
use lib.ListN.{length-take}
use Rattle.views.specs.View.{view_of}
use Rattle.views.proofs.view.Goals as goal

pub returns-then-number-ne0 : goal.returns-then-number-ne0
unfolding view_of
returns-then-number-ne0 c = simp (ne_eqb _ _ c.if-number-ne0.true)

pub returns-then-room-length : goal.returns-then-room-length
unfolding view_of
returns-then-room-length c = simp (eq-eqb _ _ c.if-number-ne0.false, lt-ltb _ _ c.if-room-length.true)

pub slice_bounds-result-end-2 : goal.slice_bounds-result-end-2
slice_bounds-result-end-2 c = simp length-take (omega arith)

pub returns : goal.returns
unfolding view_of
returns c = simp (eq-eqb _ _ c.if-number-ne0.false, le-ltb _ _ c.if-room-length.false)
