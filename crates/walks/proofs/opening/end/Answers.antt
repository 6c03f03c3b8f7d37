-- `walks::opening::end` meets its contract: by what the step ensures of the last block, and the test. Assumes nothing.
use mathlib.Core.Path.{ap, ◌∙◌}
use Rattle.states.specs.Modes.{block_first}
use Rattle.walks.proofs.Opened.{open_ended}
use Rattle.walks.proofs.opening.end.Goals as goal

pub returns-clause-ended : goal.returns-clause-ended
returns-clause-ended g c =
    let a = c.args in
    let o = c.block_first-ahead.ensures ∙ ap block_first c.kind.ensures in
    open_ended g.M.Mode.kind a.under.now a.s a.part.now a.rest.now _ _ _ _ _ _ _ _ _ _ c.block-n.ensures c.is_full.ensures o
    c.begin-at.ensures.0 c.begin-from.ensures.0 c.load.ensures c.open_last-opened.ensures.stepped c.store.ensures c.judge.ensures
    c.requires.openable.block c.requires.short
