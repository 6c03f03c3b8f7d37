-- `prepared::words_in` meets its contract: its loop reads both words, cell by cell. Assumes nothing.
use mathlib.Core.Path.{ap, ◌∙◌}
use Rattle.cells.specs.Cells.{Nibble, step3}
use Rattle.prepared.proofs.Loops.{words_none, words_more, words_all}
use Rattle.prepared.proofs.words_in.Goals as goal

pub loop-j-init : goal.loop-j-init
loop-j-init c = words_none _

pub loop-j-preserved : goal.loop-j-preserved
loop-j-preserved c =
    let e₁ = c.right_nibble.ensures in
    let e₂ = c.right_nibble-in-loop-j.ensures in
    let e₃ = c.right_nibble-in-loop-j-2.ensures in
    let e₄ = c.right_nibble-b.ensures in
    words_more _ c.loop-j.invariant c.loop-j-test.true (e₄ ∙ ap (step3 Nibble) (e₃ ∙ ap (step3 Nibble) (e₂ ∙ ap (step3 Nibble) e₁)))

pub returns : goal.returns
returns c = words_all c.loop-j.invariant c.loop-j-test.false
