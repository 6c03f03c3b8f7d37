-- `forkskinny::laid::Laid::run_branch` meets its contract: the branch's rounds, from its place on. Assumes nothing.
use mathlib.Core.Path.{◌∙◌, ap}
use native.Mathlib.Omega.{arith}
use Rattle.schedule.specs.Schedule.{advance}
use Rattle.runs.specs.Runs.{rounds}
use Rattle.runs.proofs.Loops.{fewer}
use Rattle.ciphers.specs.Ciphers.{width_of, words_of, unload}
use Rattle.ciphers.proofs.Laws.{branch_more}
use Rattle.forkskinny.specs.ForkSkinny.{branch}
use Rattle.forkskinny.proofs.Places.{branch_fit}
use Rattle.forkskinny.proofs.laid.Laid.run_branch.Goals as goal

pub run-requires : goal.run-requires
run-requires c =
    let a = c.args in
    let p = c.start_of-at.ensures in
    let q = c.branch_of-n.ensures in
    (omega (arith, branch_more a.self.now.cipher, q), omega (arith, branch_fit a.self.now.cipher a.b, p, q))

pub returns : goal.returns
unfolding branch
returns c =
    let a = c.args in
    let w = width_of a.self.now.cipher in
    let n = words_of a.self.now.cipher in
    let p = c.start_of-at.ensures in
    let q = c.branch_of-n.ensures in
    λ t known. c.unload_state.ensures
    ∙ ap (unload w) (c.run.ensures.by n t (fewer known _ (omega (arith, p, q)))
    ∙ (λ i. rounds w n (q i) (advance w n (p i) t) (c.enter_branch.ensures i)))
