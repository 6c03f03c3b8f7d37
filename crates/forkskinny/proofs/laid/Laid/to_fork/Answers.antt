-- `forkskinny::laid::Laid::to_fork` meets its contract: the rounds before the fork, on the block's cells. Assumes nothing.
use mathlib.Core.Path.{◌∙◌}
use native.Mathlib.Omega.{arith}
use Rattle.schedule.specs.Schedule.{advance}
use Rattle.runs.specs.Runs.{rounds}
use Rattle.runs.proofs.Loops.{fewer}
use Rattle.ciphers.specs.Ciphers.{width_of, words_of}
use Rattle.ciphers.proofs.Laws.{fit, init_some}
use Rattle.forkskinny.specs.ForkSkinny.{forked}
use Rattle.forkskinny.proofs.laid.Laid.to_fork.Goals as goal

pub run-requires : goal.run-requires
run-requires c =
    let a = c.args in
    let p = c.init_of-n.ensures in
    (omega (arith, init_some a.self.now.cipher, p), omega (arith, fit a.self.now.cipher, p))

pub returns : goal.returns
unfolding forked advance
returns c =
    let a = c.args in
    let w = width_of a.self.now.cipher in
    let n = words_of a.self.now.cipher in
    let p = c.init_of-n.ensures in
    λ t known. c.run.ensures.by n t (fewer known _ (omega (arith, p)))
    ∙ (λ i. rounds w n (p i) t (c.load_state.ensures i))
