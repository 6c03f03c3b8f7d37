-- `rounds::unlinear_with` meets its contract: the steps, one after the other. Assumes nothing.
use mathlib.Core.Path.{ap, ◌∙◌}
use Prim.Native.Nat.{◌+◌}
use lib.ListN.{get_or}
use Rattle.cells.specs.Words.{lane, not8}
use Rattle.rounds.specs.State.{row, sub_by, unshift_rows}
use Rattle.rounds.specs.Words.{lanes, added}
use Rattle.rounds.proofs.Linear.{unlinear_words}
use Rattle.rounds.proofs.unlinear_with.Goals as goal

pub returns : goal.returns
returns c =
    let a = c.args in
    let upper = c.upper_half.ensures in
    let lower = c.lower_half.ensures in
    ap (sub_by not8) (c.add_rows.ensures
    ∙ (λ i. added (upper i) (lower i) (row (lane 0xfffffffd)) (row (lane 0xffffffff)) (lanes c.unshift_rows.result))
    ∙ ap (added (row (λ j. get_or a.t.now j 0)) (row (λ j. get_or a.t.now (4 + j) 0)) (row (lane 0xfffffffd)) (row (lane 0xffffffff)))
    (c.unshift_rows.ensures ∙ ap unshift_rows c.unmix_columns.ensures))
    ∙ unlinear_words a.t.now (lanes a.s)
