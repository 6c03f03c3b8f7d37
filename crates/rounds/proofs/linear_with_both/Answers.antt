-- `rounds::linear_with_both` meets its contract: the steps, one after the other. Assumes nothing.
use mathlib.Core.Path.{ap, ◌∙◌}
use Prim.Native.Nat.{ℕ, ◌+◌}
use lib.ListN.{get_or}
use Rattle.cells.specs.Words.{lane, not8}
use Rattle.rounds.specs.State.{State, row, sub_by, shift_rows, mix_columns}
use Rattle.rounds.specs.Words.{lanes, added, pair_row}
use Rattle.rounds.proofs.Linear.{top_not, top_words, linear_words}
use Rattle.rounds.proofs.Rows.{pair_row_lem}
use borrow.Author.Rules.{rules}
use Rattle.rounds.proofs.linear_with_both.Goals as goal

pub returns : goal.returns
returns c low =
    let a = c.args in
    let t : ℕ → ℕ = λ j. get_or a.t.now j 0 in
    let u : ℕ → ℕ = λ j. get_or a.u.now j 0 in
    let upper = pair_row_lem c.upper_half.result c.upper_half-2.result t u (search rules) c.upper_half.ensures c.upper_half-2.ensures low in
    let lower =
    pair_row_lem c.lower_half.result c.lower_half-2.result (λ j. t (4 + j)) (λ j. u (4 + j)) (search rules)
    c.lower_half.ensures c.lower_half-2.ensures (λ j. low (4 + j)) in
    top_words c.mix_columns-m.result
    ∙ ap (λ (x : State). sub_by not8 (top_not x)) (c.mix_columns-m.ensures
    ∙ ap mix_columns (c.shift_rows.ensures
    ∙ ap shift_rows (c.add_rows.ensures
    ∙ λ i. added (upper i) (lower i) (row (lane 0xffffffdd)) (row (lane 0)) (lanes a.s))))
    ∙ linear_words 34 (pair_row a.t.now a.u.now) (lanes a.s)
