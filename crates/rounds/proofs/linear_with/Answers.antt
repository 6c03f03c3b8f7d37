-- `rounds::linear_with` meets its contract: the steps, one after the other. Assumes nothing.
use mathlib.Core.Path.{ap, ◌∙◌}
use Rattle.cells.specs.Words.{lane, not8}
use Rattle.rounds.specs.State.{State, row, sub_by, shift_rows, mix_columns}
use Rattle.rounds.specs.Words.{lanes, added}
use Rattle.rounds.proofs.Linear.{top_not, top_words, linear_words}
use Rattle.rounds.proofs.linear_with.Goals as goal

pub returns : goal.returns
returns c =
    let a = c.args in
    let upper = c.upper_half.ensures in
    let lower = c.lower_half.ensures in
    top_words c.mix_columns-m.result
    ∙ ap (λ (x : State). sub_by not8 (top_not x)) (c.mix_columns-m.ensures
    ∙ ap mix_columns (c.shift_rows.ensures
    ∙ ap shift_rows (c.add_rows.ensures
    ∙ λ i. added (upper i) (lower i) (row (lane 0xfffffffd)) (row (lane 0)) (lanes a.s))))
    ∙ linear_words 2 a.t.now (lanes a.s)
